pub mod Words
pub mod Stopping
pub mod WordReading
pub mod WordLaws
