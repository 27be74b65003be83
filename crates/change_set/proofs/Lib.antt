mod CellLoop
pub mod CellsAgain
mod ChangeLoop
pub mod ChangesAgain
mod Fields
mod Keyed
pub mod SetsAgain
pub mod RowTests
pub mod NetMembers
pub mod NetOrder
mod PutNet
pub mod Nets
mod NoNet
pub mod NetApplies
pub mod ShortPayload
pub mod NetFits
pub mod FromEmpty
pub mod ValidAlone
mod Slots
mod NoteSteps
mod Loops
mod SlotNotes
mod OldRows
mod NetNotes
mod FromNotes
mod OneOrder
mod Cleared
mod ClearSteps
mod Searched
mod CounterNotes
mod Filled
mod Applied
mod Stands
mod Back
mod FoundRow
mod FillSteps
mod Carried
mod CodedSchema
