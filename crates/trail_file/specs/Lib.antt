pub mod Text
pub mod Rest
pub mod Versions
pub mod Heads
pub mod Faults
pub mod Opening
