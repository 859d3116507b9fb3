mod LeadingRows
pub mod Lengths
