pub mod Prefixes
pub mod Totals
