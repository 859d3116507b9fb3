pub mod Numbers
pub mod Tables
pub mod Keep
pub mod Put
pub mod Grid
pub mod Same
pub mod Filled
pub mod Pasted
