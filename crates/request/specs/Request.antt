-- The texts that ask for a trace, as crate asking defines them, for the crates above.
-- Assumes nothing.
pub use Rattle.asking.specs.Request.{Said, asks, nothing, Means}
unfoldable pub use Rattle.asking.specs.Request.{line, request, ends_number, grown, numbers_from, as_byte, is_taken, said_by, reading}
