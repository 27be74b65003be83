pub mod Area
pub mod Written
