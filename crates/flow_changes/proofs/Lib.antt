pub mod Lists
pub mod Once
pub mod Told
pub mod RightsTold
pub mod OwnFacts
pub mod EdgesLacked
pub mod Labelled
pub mod Named
pub mod Gains
pub mod Promises
pub mod Exact
pub mod EachOnce
pub mod RightsHeld
pub mod Compared
mod ReachDifferences
