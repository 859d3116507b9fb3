pub mod Request
pub mod Reader
