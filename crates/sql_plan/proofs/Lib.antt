pub mod Parts
pub mod Orders
pub mod Unvarying
mod Best
mod Ranked
pub mod Covered
mod Picks
pub mod FoundRows
mod FirstTests
mod Planned
mod Plays
