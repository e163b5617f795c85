pub mod Dealt
pub mod Equal
pub mod Joined
pub mod Fleets
