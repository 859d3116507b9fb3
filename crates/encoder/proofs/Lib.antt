mod RowNumbers
mod Written
mod EncodeChecks
pub mod Settled
pub mod RowSymbols
