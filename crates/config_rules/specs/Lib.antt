pub mod Faultless
pub mod Names
pub mod Passes
pub mod PlanOf
pub mod Read
pub mod Values
pub mod Walks
pub mod Written
