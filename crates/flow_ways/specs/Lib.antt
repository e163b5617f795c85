pub mod Rounds
pub mod Arriving
pub mod Distances
pub mod Found
pub mod Kept
pub mod Why
pub mod Bare
