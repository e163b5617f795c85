pub mod Dates
pub mod Found
pub mod Widths
pub mod Words
