pub mod Due
pub mod Texts
