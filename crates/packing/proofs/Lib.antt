pub mod Unpacked
pub mod Packed
