pub mod Clocks
pub mod Moments
