pub mod Passing
pub mod Settled
