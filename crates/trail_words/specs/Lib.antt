pub mod Faults
pub mod Notes
pub mod Wanting
pub mod Lines
pub mod Json
pub mod Printing
pub mod Pieces
