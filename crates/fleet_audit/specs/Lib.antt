pub mod Audits
pub mod Faults
pub mod Giving
pub mod Laws
pub mod Turns
pub mod Progress
pub mod Reading
pub mod Telling
