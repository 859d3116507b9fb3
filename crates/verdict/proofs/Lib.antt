pub mod Verdicts
pub mod Start
