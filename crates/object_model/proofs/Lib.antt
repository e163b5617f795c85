mod Attributes
pub mod Crossing
pub mod ByObject
pub mod Puts
pub mod Positions
pub mod Numbers
mod Labels
mod Granted
mod Searches
mod Worths
mod Places
mod Room
mod Referred
pub mod Scripted
pub mod Numbered
mod Stores
mod Aligned
mod Changed
mod Kept
pub mod Inner
pub mod Columns
