pub mod Degrees
pub mod PairNumbers
