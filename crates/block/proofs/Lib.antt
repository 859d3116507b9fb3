pub mod CodeRows
pub mod Unchanged
pub mod PayloadBack
pub mod Writes
pub mod Settled
