pub mod Area
pub mod Heights
