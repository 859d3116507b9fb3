pub mod Checks
pub mod RowByRow
