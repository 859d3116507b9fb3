pub mod Start
pub mod Pairing
pub mod Steps
pub mod Picture
pub mod Meaning
