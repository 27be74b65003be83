pub mod Script
pub mod Running
pub mod Ends
pub mod Examples
