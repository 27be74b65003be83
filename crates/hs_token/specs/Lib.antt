pub mod Spelling
pub mod Reading
pub mod Number
pub mod Steps
pub mod Examples
