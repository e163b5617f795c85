pub mod Sums
pub mod Replies
