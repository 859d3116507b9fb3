pub mod UpdateCells
pub mod ChangeLaws
pub mod BelowUpdates
