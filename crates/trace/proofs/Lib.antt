mod Checked
pub mod Lengths
mod Whole
pub mod Example
