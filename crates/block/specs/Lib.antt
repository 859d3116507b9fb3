pub mod Writing
pub mod Untouched
