pub mod Crossing
pub mod Held
