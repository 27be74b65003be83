pub mod Apart
pub mod Ascending
mod Changed
pub mod Cuts
pub mod Elements
mod Beginnings
pub mod Found
pub mod InOrder
mod Evened
mod Joined
pub mod Members
pub mod Removed
mod Searched
mod Shaped
mod Places
mod Rooms
mod Spotted
pub mod Through
mod Walked
