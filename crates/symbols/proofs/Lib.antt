pub mod Tested
pub mod Bytes
mod Xor
mod DigitProducts
mod DigitRing
mod BinaryField
pub mod FieldLaws
pub mod TableRules
pub mod SymbolLists
pub mod Settled
