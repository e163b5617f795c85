pub mod Answering
pub mod Keeping
pub mod Laws
pub mod Stepping
pub mod Turns
