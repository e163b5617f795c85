pub mod Fields
pub mod Initiate
pub mod Contents
pub mod Judging
pub mod Answers
pub mod Laws
