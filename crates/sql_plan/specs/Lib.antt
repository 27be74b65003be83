pub mod Tests
pub mod Plans
pub mod Ranges
pub mod Sorted
pub mod Looking
pub mod Examples
