pub mod Symbols
pub mod Weights
pub mod Functions
pub mod Interpolation
pub mod Totals
