pub mod Histories
mod Carried
mod Committed
mod Counters
mod Ended
mod Keeping
mod Opening
mod Rotating
mod NoChange
mod Settling
mod Undoing
