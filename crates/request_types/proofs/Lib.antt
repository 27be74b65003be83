pub mod CodeFacts
pub mod FitFacts
pub mod Ids
