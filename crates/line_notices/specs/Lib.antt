pub mod Onlooking
pub mod Seen
