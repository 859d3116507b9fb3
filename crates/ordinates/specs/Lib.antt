pub mod Ordinates
