pub mod Decoding
pub mod FullRows
pub mod Undamaged
pub mod WithinReach
