-- A text says what it is read as, for the crates above.
-- Assumes nothing.
pub use Rattle.asking.proofs.Meaning.{reading-means}
