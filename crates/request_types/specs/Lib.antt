pub mod Code
pub mod Fits
pub mod Names
pub mod Refusal
pub mod Ids
pub mod Batches
