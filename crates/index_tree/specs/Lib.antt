pub mod Chunked
pub mod Contents
pub mod Examples
pub mod Ordered
pub mod Parts
