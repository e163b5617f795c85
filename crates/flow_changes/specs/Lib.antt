pub mod Facts
pub mod Changes
pub mod Shown
pub mod Singles
pub mod Differences
pub mod Lacked
pub mod Promises
pub mod Written
