-- Records put on tables one after the other, as a loop does.
--     led_on      one record more
--     stopped      one that leads nowhere
use Rattle.std.proofs.Common.{◌≡◌, ℕ, ◌+◌, ◌<◌, List, [], ◌∷◌, ◌++◌, length, get_or, take, drop, sym, ap, subst, ◌∙◌}
use Rattle.std.proofs.lemmas.List.{drop_more, take_more, take-append-drop}
use Rattle.table_rows.specs.Database.{Database}
use Rattle.redo_journal.specs.Records.{payloads_of}
use Rattle.redo_journal.specs.declared.record.Record.{Record}
use Rattle.redo_journal.specs.declared.refusal.Refusal.{Refusal}
use Rattle.redo_journal.specs.declared.refusal.Refusal.TheVariants.{OtherSchema, Damaged, DiskFault, NoMemory}
use Rattle.table_recovery.specs.Answers.{RefusesRecord, RefusesRecords}
use Rattle.table_recovery.specs.Shown.{Leads, LeadAll}
use Rattle.table_recovery.proofs.OpenedLemmas.{payloads_cut}
use Rattle.table_recovery.proofs.ShownLaws.{lead_all_behind}

module _ (start db : Database) (records : List Record) (i : ℕ) (stop : Record) (within : i < length records) (is : stop ≡ get_or records i stop) (so_far : LeadAll start (payloads_of (take i records)) db) where
  pub led_on : (next : Database) → Leads db stop.payload next → LeadAll start (payloads_of (take (i + 1) records)) next
  led_on next leads =
      let more : take (i + 1) records ≡ take i records ++ stop ∷ [] = take_more records i stop within ∙ ap (λ (r : Record). take i records ++ r ∷ []) (sym is) in
      subst (λ (payloads : List (List ℕ)). LeadAll start payloads next) (sym (ap payloads_of more ∙ payloads_cut (take i records) stop []))
      (lead_all_behind start (payloads_of (take i records)) db stop.payload next so_far leads)

  pub stopped : (refusal : Refusal) → RefusesRecord db stop refusal → RefusesRecords start records refusal
  stopped OtherSchema refuses = absurd refuses
  stopped (Damaged place) refuses = record {
    before = take i records;
    stop = stop;
    behind = drop (i + 1) records;
    are = sym (take-append-drop i records) ∙ ap (λ (rest : List Record). take i records ++ rest) (drop_more records i stop within ∙ ap (λ (r : Record). r ∷ drop (i + 1) records) (sym is));
    db = db;
    leads = so_far;
    refuses = refuses;
  }
  stopped DiskFault refuses = absurd refuses
  stopped NoMemory refuses = tt
