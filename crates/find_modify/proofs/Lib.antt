pub mod CellKinds
pub mod CellSteps
pub mod Others
pub mod Whole
pub mod Few
