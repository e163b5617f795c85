pub mod Ahead
pub mod Asked
pub mod CrossingCalls
pub mod CrossingPorts
mod Freed
pub mod Sending
