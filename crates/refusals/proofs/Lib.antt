pub mod Checks
pub mod Settled
