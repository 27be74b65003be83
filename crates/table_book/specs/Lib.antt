pub mod Histories
pub mod Books
pub mod Outcomes
pub mod Committing
pub mod Settling
pub mod Running
