mod Gathered
mod Fronts
mod Fitting
mod Fresh
mod Few
mod Shown
mod Turns
pub mod Chosen
mod Distinct
mod Plays
