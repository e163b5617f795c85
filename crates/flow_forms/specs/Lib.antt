pub mod Csv
pub mod Html
pub mod Json
pub mod Rights
pub mod Listing
