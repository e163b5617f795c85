pub mod Causes
pub mod Table
pub mod Ends
pub mod Gather
pub mod Sources
pub mod Marking
