pub mod Reached
pub mod Noting
pub mod Numbered
pub mod Passed
mod LedTo
pub mod Shown
pub mod Told
pub mod Distance
mod BareFlow
mod BareRequests
mod BareScripts
