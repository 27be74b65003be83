pub mod Columns
pub mod ValueKinds
pub mod Coming
pub mod Drawn
pub mod Widened
pub mod Inserting
