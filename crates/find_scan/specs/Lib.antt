pub mod Select
pub mod Show
pub mod Rendering
pub mod Gathering
pub mod Examples
