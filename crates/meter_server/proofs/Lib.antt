pub mod Answered
pub mod Audits
pub mod Ends
pub mod Made
pub mod Mapped
mod Told
mod Trails
mod Warned
mod Written
