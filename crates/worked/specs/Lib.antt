pub mod Table
pub mod Stated
pub mod Reaches
