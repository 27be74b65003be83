-- What a journal that was opened shows, and where it is damaged.
--     opened_shows      its contents show the tables that its area and its records lead to
--     fresh_nothing      a fresh image has no contents
--     form_rooted      a journal with an area has a root
--     payloads_cut      the payloads of records, cut at one
--     bad_area, bad_record      where its area or a record is damaged
use Rattle.std.proofs.Common.{◌≡◌, ℕ, ◌+◌, ◌-◌, ◌<◌, ◌≤◌, ◌^◌, List, [], ◌∷◌, ◌++◌, length, refl, sym, ap, ap₂, subst, ◌∙◌, inl, inr, arith, length-append}
use Rattle.std.specs.Prelude.{Option, Some, None, option_map}
use Rattle.std.proofs.lemmas.List.{length-map}
use Rattle.row_types.specs.declared.tables.Schema.{Schema}
use Rattle.table_rows.specs.Database.{Database}
use Rattle.hs_schema.specs.Spelling.{spelled}
use Rattle.redo_journal.specs.Bytes.{counted, heading, segment_head, records_of}
use Rattle.redo_journal.specs.Image.{Contents, IsForm, IsImageAt, IsFresh, StandsFor, nothing, count}
use Rattle.redo_journal.specs.Journal.{Standing, IsOf, records, root_gate}
use Rattle.redo_journal.specs.Opening.{StandUpTo, contents_of}
use Rattle.redo_journal.specs.Records.{payloads_of, placed}
use Rattle.redo_journal.specs.declared.opened.Opened.{Opened}
use Rattle.redo_journal.specs.declared.record.Record.{Record}
use Rattle.redo_journal.specs.declared.root.Root.{Root}
use Rattle.redo_journal.proofs.ReadingLaws.{fresh_no_journal}
use Rattle.table_recovery.specs.Answers.{MakesNothing, HasBadArea, HasBadRecord, StopsAt}
use Rattle.table_recovery.specs.Shown.{Begins, LeadAll, Shows}

-- the journal counts what was handed out
abbrev pub Counts : Standing → Opened → Type 0
Counts journal opened = (journal.first ≡ opened.first) × (journal.since ≡ length opened.records.items)

number_is : (journal : Standing) (opened : Opened) → Counts journal opened → records journal ≡ count (contents_of opened)
number_is journal opened counts =
    ap₂ (λ (a b : ℕ). a + b) counts.0 (counts.1 ∙ sym (length-map opened.records.items (λ (r : Record). r.payload)))

pub opened_shows : (schema : Schema) (bytes_max : ℕ) (opened : Opened) (journal : Standing) (start db : Database) → Begins schema bytes_max opened.area start → LeadAll start (payloads_of opened.records.items) db → Counts journal opened → Shows schema bytes_max (contents_of opened) db (records journal)
opened_shows schema bytes_max opened journal start db begins leads counts = record {
  start = start;
  begins = begins;
  leads = leads;
  place_is = number_is journal opened counts;
}

pub fresh_nothing : (text image : List ℕ) (contents : Contents) → IsFresh image → StandsFor text contents image → contents ≡ nothing
fresh_nothing text image contents fresh (inl (so, none)) = none
fresh_nothing text image contents fresh (inr is) = absurd (fresh_no_journal text image contents fresh is)

pub form_rooted : (text : List ℕ) (first : ℕ) (payloads : List (List ℕ)) (read : Option (List ℕ)) (root : Option Root) (gate : ℕ) (image area : List ℕ) → IsForm text first payloads read root gate image → read ≡ Some area → (found : Root) × (root ≡ Some found)
form_rooted text first payloads None root gate image area form is = absurd cc
form_rooted text first payloads (Some x) None gate image area form is = absurd form
form_rooted text first payloads (Some x) (Some root) gate image area form is = (root, refl)

-- the records of a journal stand before its last gate
records_before : (text : List ℕ) (first : ℕ) (payloads : List (List ℕ)) (read : Option (List ℕ)) (root : Option Root) (gate : ℕ) (image : List ℕ) → IsForm text first payloads read root gate image → length (records_of payloads) ≤ gate
records_before text first payloads None None gate image form = omega (arith, form.1.gate_is, length-append (1 ∷ heading text) (records_of payloads))
records_before text first payloads None (Some root) gate image form = absurd form
records_before text first payloads (Some area) None gate image form = absurd form
records_before text first payloads (Some area) (Some root) gate image form =
    omega (arith, form.2.segment.gate_is, length-append (segment_head first area) (records_of payloads))

one_record : (payload : List ℕ) (payloads : List (List ℕ)) → length (records_of (payload ∷ payloads)) ≡ 5 + length payload + length (records_of payloads)
unfolding counted
one_record payload payloads = omega (arith, length-append payload (records_of payloads))

payloads_placed : (place : ℕ) (payloads : List (List ℕ)) → payloads_of (placed place payloads) ≡ payloads
payloads_placed place [] = refl
payloads_placed place (p ∷ ps) = ap (λ (rest : List (List ℕ)). p ∷ rest) (payloads_placed (place + (5 + length p)) ps)

cut_at : (a : Record) (xs : List Record) (b : Record) (ys : List Record) → a ∷ xs ≡ b ∷ ys → (a ≡ b) × (xs ≡ ys)
cut_at a xs b ys e = (cc, cc)

-- where a record stands among those from a place on
place_of : (first : ℕ) (before : List Record) (stop : Record) (behind : List Record) (payloads : List (List ℕ)) → before ++ stop ∷ behind ≡ placed first payloads → stop.place + length (records_of (stop.payload ∷ payloads_of behind)) ≡ first + length (records_of payloads)
place_of first [] stop behind [] is = absurd cc
place_of first [] stop behind (p ∷ ps) is =
    let both = cut_at stop behind (record { place = first; payload = p }) (placed (first + (5 + length p)) ps) is in
    let same : payloads_of behind ≡ ps = ap payloads_of both.1 ∙ payloads_placed (first + (5 + length p)) ps in
    ap₂ (λ (r : Record) (rest : List (List ℕ)). r.place + length (records_of (r.payload ∷ rest))) both.0 same
place_of first (b ∷ bs) stop behind [] is = absurd cc
place_of first (b ∷ bs) stop behind (p ∷ ps) is =
    let both = cut_at b (bs ++ stop ∷ behind) (record { place = first; payload = p }) (placed (first + (5 + length p)) ps) is in
    omega (arith, place_of (first + (5 + length p)) bs stop behind ps both.1, one_record p ps)

pub payloads_cut : (before : List Record) (stop : Record) (behind : List Record) → payloads_of (before ++ stop ∷ behind) ≡ payloads_of before ++ stop.payload ∷ payloads_of behind
payloads_cut [] stop behind = refl
payloads_cut (b ∷ bs) stop behind = ap (λ (rest : List (List ℕ)). b.payload ∷ rest) (payloads_cut bs stop behind)

module _ (schema : Schema) (bytes_max : ℕ) (opened : Opened) (journal : Standing) (image : List ℕ) (is : IsOf (spelled schema) (contents_of opened) journal image) (counts : Counts journal opened) (low : records journal < 2 ^ 63) where
  low_count : count (contents_of opened) < 2 ^ 63
  low_count = subst (λ (n : ℕ). n < 2 ^ 63) (number_is journal opened counts) low

  pub bad_area : (area : List ℕ) (place : ℕ) → opened.area ≡ Some area → MakesNothing schema bytes_max area → ((found : ℕ) → root_gate journal ≡ Some found → place ≡ found) → HasBadArea schema bytes_max place image
  bad_area area place read makes gate =
      let found = form_rooted (spelled schema) opened.first (payloads_of opened.records.items) opened.area journal.root journal.gate image area is.is.form read in
      record {
        contents = contents_of opened;
        root = found.0;
        gate = journal.gate;
        area = area;
        is = subst (λ (root : Option Root). IsImageAt (spelled schema) (contents_of opened) root journal.gate image) found.1 is.is;
        low = low_count;
        area_is = read;
        makes = makes;
        place_is = gate found.0.gate (ap (option_map (λ (root : Root). root.gate)) found.1);
      }

  pub bad_record : (start : Database) (place : ℕ) → StandUpTo journal.gate opened.records.items → Begins schema bytes_max opened.area start → StopsAt start opened.records.items place → HasBadRecord schema bytes_max place image
  bad_record start place places begins stops =
      let payloads = payloads_of opened.records.items in
      let most = records_before (spelled schema) opened.first payloads opened.area journal.root journal.gate image is.is.form in
      let at = place_of (journal.gate - length (records_of payloads)) stops.before stops.stop stops.behind payloads (sym stops.are ∙ places) in
      record {
        contents = contents_of opened;
        root = journal.root;
        gate = journal.gate;
        before = payloads_of stops.before;
        bytes = stops.stop.payload;
        behind = payloads_of stops.behind;
        start = start;
        db = stops.db;
        is = is.is;
        low = low_count;
        payloads_are = ap payloads_of stops.are ∙ payloads_cut stops.before stops.stop stops.behind;
        begins = begins;
        leads = stops.leads;
        nowhere = stops.refuses.1;
        place_is = omega (arith, at, most, stops.refuses.0);
      }
