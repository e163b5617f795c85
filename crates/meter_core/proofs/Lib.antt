pub mod Crossing
pub mod Answered
pub mod Permitted
pub mod Runs
mod Clocks
