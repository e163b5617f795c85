pub mod Accepting
pub mod Ahead
pub mod Asking
pub mod Binding
pub mod Driving
pub mod Faults
pub mod Seats
