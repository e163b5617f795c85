pub mod Readings
pub mod Padded
pub mod MomentText
