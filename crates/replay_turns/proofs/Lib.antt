pub mod Lookups
pub mod Places
pub mod Numbers
pub mod Settling
pub mod Joined
mod Shows
pub mod ToldLines
pub mod Turns
pub mod Answering
pub mod Failing
pub mod Batched
pub mod Bridge
pub mod Over
pub mod Answered
pub mod Owed
pub mod Listed
