pub mod Rounds
pub mod Copies
pub mod NearCopies
pub mod InNumbers
pub mod Settled
