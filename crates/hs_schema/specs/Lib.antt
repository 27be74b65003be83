pub mod Reading
pub mod Adding
pub mod Spelling
pub mod Examples
