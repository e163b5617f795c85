pub mod Stream
pub mod Judging
pub mod Places
pub mod Faults
