pub mod Lists
pub mod Low
