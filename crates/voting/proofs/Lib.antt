pub mod Votes
pub mod Clearing
