pub mod Days
pub mod MomentText
pub mod Reading
pub mod Texts
