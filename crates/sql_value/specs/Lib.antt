pub mod Logic
pub mod Worth
pub mod Eval
pub mod Kinds
pub mod Fits
