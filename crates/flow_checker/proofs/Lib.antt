pub mod Crossing
pub mod Within
pub mod ByNumber
pub mod FirstFails
pub mod Looked
