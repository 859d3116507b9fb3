pub mod Judgements
pub mod WithinReach
pub mod ReadingBack
pub mod DecodeChecks
pub mod Promises
pub mod Settled
