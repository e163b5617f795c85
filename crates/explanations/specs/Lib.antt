pub mod Hidden
pub mod Lines
pub mod Warnings
