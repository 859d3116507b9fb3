pub mod Tape
pub mod Outcomes
pub mod NearRows
