mod AppendLemmas
mod CallLemmas
mod CommitLemmas
pub mod DoubtLemmas
mod FormLemmas
mod FreeLemmas
mod HeaderLemmas
mod ImageLemmas
mod LiveLemmas
mod MakeLemmas
pub mod Moments
pub mod OneJournal
mod OpenLemmas
mod OpeningLemmas
pub mod ReadingLaws
mod RecordLemmas
mod RepairLemmas
mod RootLaws
mod RotateLemmas
mod RunLemmas
pub mod SegmentLemmas
mod StandLemmas
mod SyncLemmas
mod TurnLemmas
mod WorkedExamples
