pub mod Spaces
pub mod Clients
pub mod Bytes
pub mod Steps
pub mod Written
pub mod Alone
