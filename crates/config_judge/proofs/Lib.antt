pub mod ClockTimes
pub mod FirstPlace
pub mod Halves
pub mod Offered
