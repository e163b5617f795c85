pub mod Crossing
pub mod Left
pub mod Shown
