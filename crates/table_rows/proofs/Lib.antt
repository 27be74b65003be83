pub mod CellOrder
pub mod KeptRows
pub mod Neighbours
pub mod SlotLists
pub mod WalkChanges
pub mod WalkedRows
mod DigestOrder
mod LikeRows
mod LiveSlots
mod MarkLists
mod OrderSteps
mod OneStep
mod StoreSteps
mod VacantSlots
pub mod Pairs
pub mod Passing
pub mod BySlot
pub mod Keys
pub mod Meets
pub mod Clashes
pub mod Placed
pub mod States
pub mod Counted
pub mod Undone
pub mod Kept
pub mod Seen
pub mod Allowed
pub mod Inner
pub mod Wider
pub mod Sized
pub mod Verdicts
pub mod Roomier
pub mod Alone
pub mod GoingBack
pub mod PrimaryWalk
pub mod KeyedRows
pub mod Plays
