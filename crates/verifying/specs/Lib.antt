pub mod Verification
pub mod AsBytes
pub mod Copy
pub mod Stores
