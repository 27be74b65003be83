pub mod Histories
pub mod Serial
pub mod Steps
pub mod Known
pub mod Turns
pub mod Agreement
