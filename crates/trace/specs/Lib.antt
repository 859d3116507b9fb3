pub mod Trace
pub mod Size
pub mod Example
