pub mod StartBytes
pub mod StartRows
pub mod StartFirsts
pub mod StartParts
pub mod StartColumns
pub mod StartKinds
pub mod StartCells
