pub mod Operations
pub mod PlanOperations
pub mod Adds
pub mod Writes
pub mod Targets
pub mod Planned
