pub mod Lengths
mod Walked
pub mod LeadingTold
