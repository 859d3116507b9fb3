pub mod Numbers
pub mod Meaning
