-- What the opening of tables answers, by what the opening of the journal answers.
--     stand_for_text, stand_for_spelled      the text is the schema's
--     image_refused, area_refused, records_refused      what is refused, and that it isn't fresh
--     rooted_not_fresh      nor is a journal's image
--     shown_read, shown_on      the tables that were found are shown
--     of_schema      they are of the schema
use Rattle.std.proofs.Common.{◌≡◌, ℕ, ◌<◌, ◌^◌, List, [], ◌∷◌, ◌++◌, sym, ap, subst, ◌∙◌, inl, inr}
use Rattle.std.specs.Prelude.{Option, Some, None, unwrap_or}
use Rattle.row_types.specs.declared.tables.Schema.{Schema}
use Rattle.table_rows.specs.Database.{Database}
use Rattle.hs_disk.specs.Disk.{AllImages}
use Rattle.hs_schema.specs.Spelling.{spelled}
use Rattle.redo_journal.specs.Gates.{Throughout}
use Rattle.redo_journal.specs.Image.{Contents, IsFresh, Journals, StandsFor, nothing}
use Rattle.redo_journal.specs.Journal.{Standing, IsOf, Holds, StandsOn, records, root_gate}
use Rattle.redo_journal.specs.Opening.{RefusesImage, StandUpTo, contents_of}
use Rattle.redo_journal.specs.Records.{payloads_of}
use Rattle.redo_journal.specs.declared.doubt.Doubt.{Doubt}
use Rattle.redo_journal.specs.declared.opened.Opened.{Opened}
use Rattle.redo_journal.specs.declared.record.Record.{Record}
use Rattle.redo_journal.specs.declared.refusal.Refusal.{Refusal}
use Rattle.redo_journal.specs.declared.refusal.Refusal.TheVariants.{OtherSchema, Damaged, DiskFault, NoMemory}
use Rattle.redo_journal.proofs.ReadingLaws.{fresh_no_journal, fresh_no_other, fresh_not_refused}
use Rattle.table_recovery.specs.Answers.{ShownOn, RefusesTables, RefusesArea, RefusesRecords, IsOfBytes}
use Rattle.table_recovery.specs.Shown.{Begins, LeadAll, ImageShows}
use Rattle.table_recovery.proofs.OpenedLemmas.{Counts, opened_shows, fresh_nothing, bad_area, bad_record}
use Rattle.table_recovery.proofs.RefusedLemmas.{shows_keep}

-- a refusal, and that the image isn't fresh where it is for its bytes
abbrev pub Refused : Schema → ℕ → List ℕ → Refusal → Type 0
Refused schema bytes_max image refusal =
    RefusesTables schema bytes_max image refusal × (IsOfBytes refusal → IsFresh image → ⊥)

-- what all images stand for, for a text that is spelled
pub stand_for_text : (text spelt : List ℕ) → text ≡ spelt → (contents : Contents) (images : List ℕ → Type 0) → AllImages (StandsFor spelt contents) images → AllImages (StandsFor text contents) images
stand_for_text text spelt same contents images all = λ image left. subst (λ (t : List ℕ). StandsFor t contents image) (sym same) (all image left)

pub stand_for_spelled : (text spelt : List ℕ) → text ≡ spelt → (contents : Contents) (images : List ℕ → Type 0) → AllImages (StandsFor text contents) images → AllImages (StandsFor spelt contents) images
stand_for_spelled text spelt same contents images all = λ image left. subst (λ (t : List ℕ). StandsFor t contents image) same (all image left)

module _ (schema : Schema) (bytes_max : ℕ) (text : List ℕ) (spelt : text ≡ spelled schema) where
  image_refused_by : (image : List ℕ) (refusal : Refusal) → RefusesImage (spelled schema) image refusal → Refused schema bytes_max image refusal
  image_refused_by image OtherSchema refuses = (refuses, λ of_bytes fresh. fresh_no_other (spelled schema) image fresh refuses)
  image_refused_by image (Damaged place) refuses = (inl refuses, λ of_bytes fresh. fresh_not_refused (spelled schema) image place fresh refuses)
  image_refused_by image DiskFault refuses = (tt, λ of_bytes fresh. of_bytes)
  image_refused_by image NoMemory refuses = (tt, λ of_bytes fresh. of_bytes)

  pub image_refused : (image : List ℕ) (refusal : Refusal) → RefusesImage text image refusal → Refused schema bytes_max image refusal
  image_refused image refusal refuses = image_refused_by image refusal (subst (λ (t : List ℕ). RefusesImage t image refusal) spelt refuses)

  pub rooted_not_fresh : (contents : Contents) (image : List ℕ) → Journals (spelled schema) contents image → IsFresh image → ⊥
  rooted_not_fresh contents image is fresh = fresh_no_journal (spelled schema) image contents fresh is

-- what the opening of a journal answers: it was read from the old bytes, and stands on the disk as it is now
pub record Opening (schema : Schema) (text : List ℕ) (opened : Opened) (journal : Standing) (old now : List ℕ) (may_leave : List ℕ → Type 0) : Type 0 where
  pub spelt : text ≡ spelled schema
  pub counts : Counts journal opened
  pub places : StandUpTo journal.gate opened.records.items
  pub quiet : journal.doubt ≡ None
  pub low : records journal < 2 ^ 63
  pub reads : StandsFor text (contents_of opened) old
  pub stands : StandsOn text (contents_of opened) nothing journal now may_leave
  pub stays : (IsFresh old → ⊥) → now ≡ old

not_some : (area : List ℕ) → None ≡ Some area → ⊥
not_some area e = absurd cc

not_one : (before : List Record) (stop : Record) (behind : List Record) → payloads_of (before ++ stop ∷ behind) ≡ [] → ⊥
not_one [] stop behind e = absurd cc
not_one (b ∷ bs) stop behind e = absurd cc

-- the tables of what was opened are of the schema
pub of_schema : (schema : Schema) (bytes_max : ℕ) (opened : Opened) (journal : Standing) (start db : Database) → Counts journal opened → Begins schema bytes_max opened.area start → LeadAll start (payloads_of opened.records.items) db → (db.schema ≡ schema) × (db.bytes_max ≡ bytes_max)
of_schema schema bytes_max opened journal start db counts begins leads =
    shows_keep schema bytes_max (contents_of opened) db (records journal) (opened_shows schema bytes_max opened journal start db begins leads counts)

module _ (schema : Schema) (bytes_max : ℕ) (text : List ℕ) (opened : Opened) (journal : Standing) (old now : List ℕ) (may_leave : List ℕ → Type 0) (opening : Opening schema text opened journal old now may_leave) where
  pub shown_read : (start db : Database) → Begins schema bytes_max opened.area start → LeadAll start (payloads_of opened.records.items) db → ImageShows schema bytes_max db (records journal) old
  shown_read start db begins leads = record {
    contents = contents_of opened;
    journals = subst (λ (t : List ℕ). StandsFor t (contents_of opened) old) opening.spelt opening.reads;
    shows = opened_shows schema bytes_max opened journal start db begins leads opening.counts;
  }

  pub shown_on : (start db : Database) → Begins schema bytes_max opened.area start → LeadAll start (payloads_of opened.records.items) db → ShownOn schema bytes_max db journal now may_leave
  shown_on start db begins leads = record {
    contents = contents_of opened;
    stands = subst (λ (t : List ℕ). StandsOn t (contents_of opened) nothing journal now may_leave) opening.spelt opening.stands;
    shows = opened_shows schema bytes_max opened journal start db begins leads opening.counts;
  }

  -- the journal, as it is read
  is_of : (IsFresh old → ⊥) → IsOf (spelled schema) (contents_of opened) journal old
  is_of begun =
      let quietly : Throughout (Holds text (contents_of opened) nothing journal None) now may_leave = subst (λ (doubt : Option Doubt). Throughout (Holds text (contents_of opened) nothing journal doubt) now may_leave) opening.quiet opening.stands in
      subst (λ (t : List ℕ). IsOf t (contents_of opened) journal old) opening.spelt (subst (IsOf text (contents_of opened) journal) (opening.stays begun) quietly.reads)

  none_is : IsFresh old → contents_of opened ≡ nothing
  none_is fresh = fresh_nothing text old (contents_of opened) fresh opening.reads

  no_area : (area : List ℕ) → opened.area ≡ Some area → IsFresh old → ⊥
  no_area area is fresh = not_some area (sym (ap (λ (contents : Contents). contents.area) (none_is fresh)) ∙ is)

  no_records : (before : List Record) (stop : Record) (behind : List Record) → opened.records.items ≡ before ++ stop ∷ behind → IsFresh old → ⊥
  no_records before stop behind are fresh =
      not_one before stop behind (sym (ap payloads_of are) ∙ ap (λ (contents : Contents). contents.payloads) (none_is fresh))

  same_gate : (gate : ℕ) → gate ≡ unwrap_or (root_gate journal) 0 → (found : ℕ) → root_gate journal ≡ Some found → gate ≡ found
  same_gate gate is found e = is ∙ ap (λ (o : Option ℕ). unwrap_or o 0) e

  pub area_refused : (gate : ℕ) (refusal : Refusal) → gate ≡ unwrap_or (root_gate journal) 0 → RefusesArea schema bytes_max opened.area gate refusal → Refused schema bytes_max old refusal
  area_refused gate OtherSchema is refuses = absurd refuses
  area_refused gate (Damaged place) is refuses =
      let begun = no_area refuses.1.0 refuses.1.1 in
      (inr (inl (bad_area schema bytes_max opened journal old (is_of begun) opening.counts opening.low refuses.1.0 place refuses.1.1 refuses.1.2 (λ found e. refuses.0 ∙ same_gate gate is found e))), λ of_bytes fresh. begun fresh)
  area_refused gate DiskFault is refuses = absurd refuses
  area_refused gate NoMemory is refuses = (tt, λ of_bytes fresh. of_bytes)

  pub records_refused : (start : Database) (refusal : Refusal) → Begins schema bytes_max opened.area start → RefusesRecords start opened.records.items refusal → Refused schema bytes_max old refusal
  records_refused start OtherSchema begins refuses = absurd refuses
  records_refused start (Damaged place) begins refuses =
      let begun = no_records refuses.before refuses.stop refuses.behind refuses.are in
      (inr (inr (bad_record schema bytes_max opened journal old (is_of begun) opening.counts opening.low start place opening.places begins refuses)), λ of_bytes fresh. begun fresh)
  records_refused start DiskFault begins refuses = absurd refuses
  records_refused start NoMemory begins refuses = (tt, λ of_bytes fresh. of_bytes)
