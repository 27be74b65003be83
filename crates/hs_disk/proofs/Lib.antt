pub mod GrowsLemmas
mod HeldLemmas
mod ImageLemmas
mod FileLemmas
mod PickLemmas
mod WorkedExamples
mod WriteLemmas
