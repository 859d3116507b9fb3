mod Horner
pub mod Spreading
mod Values
