pub mod LinesLemmas
pub mod WholeLines
pub mod FirstLines
pub mod PieceLemmas
