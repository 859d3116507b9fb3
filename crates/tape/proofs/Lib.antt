mod Counts
pub mod Settled
