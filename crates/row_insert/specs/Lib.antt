pub mod Refusal
pub mod Draw
pub mod Insert
pub mod Examples
