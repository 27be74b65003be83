pub mod Streams
pub mod Told
pub mod Memory
pub mod Links
pub mod MemoryLink
