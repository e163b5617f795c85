pub mod FieldsRead
pub mod InitiateRead
pub mod Kept
pub mod Differences
pub mod Clients
pub mod Judgements
pub mod Rows
