pub mod Acceptances
pub mod Signed
