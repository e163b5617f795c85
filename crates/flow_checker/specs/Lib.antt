pub mod Answer
pub mod Failures
pub mod Clauses
pub mod Accepted
pub mod Notices
