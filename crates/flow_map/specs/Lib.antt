pub mod ClassWords
pub mod Kinds
pub mod FlowWords
pub mod Requests
pub mod Map
pub mod Grouping
pub mod Outline
pub mod Granting
