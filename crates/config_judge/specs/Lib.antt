pub mod JudgedNames
pub mod Menus
pub mod Values
