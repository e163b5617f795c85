pub mod Seconds
pub mod Texts
