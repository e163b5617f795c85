pub mod TakenBack
mod Rings
mod Places
mod Selected
mod Written
pub mod Objects
pub mod Crossing
