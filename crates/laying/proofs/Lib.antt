pub mod TapeCode
pub mod Encoded
pub mod CodeRow
