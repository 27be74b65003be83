pub mod Tokens
pub mod Values
pub mod Open
pub mod Find
pub mod Insert
pub mod Fits
pub mod Line
pub mod Examples
