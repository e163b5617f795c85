pub mod CommandLine
pub mod Commands
pub mod Faults
pub mod Found
pub mod Misuses
pub mod Rows
pub mod Said
pub mod Serving
