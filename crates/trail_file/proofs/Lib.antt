pub mod Cuts
pub mod Heads
pub mod Lacking
pub mod Openings
pub mod Tears
pub mod Versions
pub mod Walks
