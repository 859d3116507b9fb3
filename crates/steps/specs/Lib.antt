pub mod Stop
pub mod Step
pub mod Votes
