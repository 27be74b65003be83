pub mod LineSteps
pub mod Rests
pub mod Runs
pub mod Words
pub mod Says
pub mod Statuses
