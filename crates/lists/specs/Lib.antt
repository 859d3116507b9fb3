pub mod Tables
pub mod Same
