pub mod Order
pub mod Fit
pub mod Size
pub mod Counted
pub mod Valid
pub mod formers
