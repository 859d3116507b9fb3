pub mod Reading
pub mod Places
pub mod Headers
pub mod Laying
