pub mod Turned
pub mod ProductCells
pub mod ReplaceCells
pub mod ReplaceLaws
