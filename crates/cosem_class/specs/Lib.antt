pub mod CellSets
pub mod Objects
pub mod Judged
pub mod DataClass
pub mod DataLaws
pub mod RegisterClass
pub mod RegisterLaws
pub mod Parts
