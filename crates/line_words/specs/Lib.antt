pub mod Lines
pub mod Changes
pub mod Telling
pub mod Watching
