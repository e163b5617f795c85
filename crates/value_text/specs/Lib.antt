pub mod Edges
pub mod Texts
