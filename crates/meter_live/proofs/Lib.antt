pub mod Crossing
pub mod Adding
pub mod Changing
mod Counts
pub mod Fronts
pub mod Kept
pub mod Lasts
pub mod Notes
mod Stays
pub mod Telling
pub mod Trails
