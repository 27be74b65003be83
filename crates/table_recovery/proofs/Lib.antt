pub mod ShownLaws
pub mod PayloadLaws
pub mod RefusalLaws
mod RefusedLemmas
mod TurnLemmas
mod RecoverLemmas
mod OpenedLemmas
mod OpenTables
mod LeadLemmas
