pub mod Cells
pub mod Change
pub mod Steps
