pub mod Codes
pub mod Shapes
