pub mod Seen
pub mod Adds
pub mod Shape
pub mod Content
pub mod Report
pub mod Answers
pub mod Tried
pub mod Retold
