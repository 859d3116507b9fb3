pub mod Points
pub mod Codes
pub mod Rows
pub mod Ranks
pub mod Answers
pub mod MessageFunction
pub mod Given
