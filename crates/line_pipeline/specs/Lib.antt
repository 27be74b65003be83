pub mod Output
pub mod Live
pub mod Conn
pub mod Table
pub mod Slots
pub mod Gathered
pub mod Settled
pub mod Fitting
