pub mod Waits
pub mod Idle
pub mod Frames
pub mod Seen
pub mod Told
pub mod Words
pub mod Lines
