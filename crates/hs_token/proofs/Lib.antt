pub mod Cases
pub mod Places
pub mod Texts
pub mod Pieces
pub mod LineLemmas
pub mod NumberLemmas
pub mod ReplyLemmas
