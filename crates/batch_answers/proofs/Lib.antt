pub mod Moved
pub mod Chosen
pub mod Changed
pub mod Named
pub mod Runs
pub mod Parts
pub mod Asked
pub mod Written
pub mod Fits
pub mod ReplyLines
mod Empty
