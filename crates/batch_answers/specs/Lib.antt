pub mod Replies
pub mod Answers
pub mod Batches
pub mod Steps
pub mod Examples
pub mod Outcomes
