pub mod Equal
pub mod OneTurn
pub mod Refining
pub mod Sending
