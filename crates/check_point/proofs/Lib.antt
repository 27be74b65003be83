pub mod MadeOfEmpty
mod ShortRows
mod TableLoop
mod Patched
pub mod ReadAreas
