-- An image that is refused is refused for one reason, at one place, and shows no tables.
--     one_place      it is damaged at one gate
--     other_not_damaged      one with another schema text is at none
--     shown_not_damaged, shown_not_other      one that shows tables is neither
use Rattle.std.proofs.Common.{◌≡◌, ℕ, ◌+◌, ◌<◌, ◌^◌, List, [], ◌∷◌, ◌++◌, length, sym, ap, subst, ◌∙◌, inl, inr, arith}
use Rattle.std.specs.Prelude.{Option, Some}
use Rattle.row_types.specs.declared.tables.Schema.{Schema}
use Rattle.table_rows.specs.Database.{Database}
use Rattle.hs_schema.specs.Spelling.{spelled}
use Rattle.redo_journal.specs.Bytes.{records_of}
use Rattle.redo_journal.specs.Damage.{HasOtherText}
use Rattle.redo_journal.specs.Image.{Contents, Journals, IsFresh, StandsFor}
use Rattle.redo_journal.proofs.OneJournal as journals
use Rattle.redo_journal.proofs.ReadingLaws as reading
use Rattle.table_recovery.specs.Answers.{LeadsNowhere, HasBadArea, HasBadRecord, IsDamagedFor}
use Rattle.table_recovery.specs.Shown.{Begins, Leads, LeadAll, Shows, ImageShows}
use Rattle.table_recovery.proofs.ShownLaws.{leads_one, begins_one}

heads : (a b : List ℕ) (xs ys : List (List ℕ)) → a ∷ xs ≡ b ∷ ys → a ≡ b
heads a b xs ys e = cc

tails : (a b : List ℕ) (xs ys : List (List ℕ)) → a ∷ xs ≡ b ∷ ys → xs ≡ ys
tails a b xs ys e = cc

-- none leads on behind it
none_behind : (start db : Database) (bytes first : List ℕ) (xs ys : List (List ℕ)) (after : Database) → bytes ∷ xs ≡ first ∷ ys → db ≡ start → LeadsNowhere db bytes → Leads start first after → ⊥
none_behind start db bytes first xs ys after same there nowhere leads =
    nowhere after (subst (λ (d : Database). Leads d bytes after) (sym there) (subst (λ (b : List ℕ). Leads start b after) (sym (heads bytes first xs ys same)) leads))

-- there is one at most
first_stop : (start : Database) (before others : List (List ℕ)) (bytes other : List ℕ) (behind rest : List (List ℕ)) (db end : Database) → before ++ bytes ∷ behind ≡ others ++ other ∷ rest → LeadAll start before db → LeadsNowhere db bytes → LeadAll start others end → LeadsNowhere end other → bytes ∷ behind ≡ other ∷ rest
first_stop start [] [] bytes other behind rest db end same leads nowhere leads' nowhere' = same
first_stop start [] (q ∷ qs) bytes other behind rest db end same leads nowhere leads' nowhere' =
    absurd (none_behind start db bytes q behind (qs ++ other ∷ rest) leads'.0 same leads nowhere leads'.1)
first_stop start (p ∷ ps) [] bytes other behind rest db end same leads nowhere leads' nowhere' =
    absurd (none_behind start end other p rest (ps ++ bytes ∷ behind) leads.0 (sym same) leads' nowhere' leads.1)
first_stop start (p ∷ ps) (q ∷ qs) bytes other behind rest db end same leads nowhere leads' nowhere' =
    let head = heads p q (ps ++ bytes ∷ behind) (qs ++ other ∷ rest) same in
    let next = leads_one start p leads.0 leads'.0 leads.1 (subst (λ (b : List ℕ). Leads start b leads'.0) (sym head) leads'.1) in
    first_stop leads.0 ps qs bytes other behind rest db end (tails p q (ps ++ bytes ∷ behind) (qs ++ other ∷ rest) same) leads.2 nowhere (subst (λ (d : Database). LeadAll d qs end) (sym next) leads'.2) nowhere'

-- all of them lead nowhere
no_end : (start : Database) (before : List (List ℕ)) (bytes : List ℕ) (behind : List (List ℕ)) (db end : Database) → LeadAll start (before ++ bytes ∷ behind) end → LeadAll start before db → LeadsNowhere db bytes → ⊥
no_end start [] bytes behind db end all leads nowhere =
    nowhere all.0 (subst (λ (d : Database). Leads d bytes all.0) (sym leads) all.1)
no_end start (p ∷ ps) bytes behind db end all leads nowhere =
    let next = leads_one start p all.0 leads.0 all.1 leads.1 in
    no_end leads.0 ps bytes behind db end (subst (λ (d : Database). LeadAll d (ps ++ bytes ∷ behind) end) next all.2) leads.2 nowhere

-- the same records end at one gate, so they begin at one
same_place : (place other gate last : ℕ) (xs ys : List (List ℕ)) → gate ≡ place + length (records_of xs) → last ≡ other + length (records_of ys) → gate ≡ last → xs ≡ ys → place ≡ other
same_place place other gate last xs ys at at' same are =
    let long : length (records_of xs) ≡ length (records_of ys) = ap (λ (payloads : List (List ℕ)). length (records_of payloads)) are in
    omega (arith, at, at', same, long)

module _ (schema : Schema) (bytes_max : ℕ) (image : List ℕ) where
  area_journals : (place : ℕ) (off : HasBadArea schema bytes_max place image) → Journals (spelled schema) off.contents image
  area_journals place off = record { root = Some off.root; gate = off.gate; is = off.is }

  record_journals : (place : ℕ) (off : HasBadRecord schema bytes_max place image) → Journals (spelled schema) off.contents image
  record_journals place off = record { root = off.root; gate = off.gate; is = off.is }

  one : (a b : Contents) → Journals (spelled schema) a image → Journals (spelled schema) b image → a ≡ b
  one = reading.one_contents (spelled schema) image

  -- tables aren't begun with an area that makes none
  area_begins : (place : ℕ) (off : HasBadArea schema bytes_max place image) (contents : Contents) → Journals (spelled schema) contents image → (start : Database) → Begins schema bytes_max contents.area start → ⊥
  area_begins place off contents is start begins =
      let same = one contents off.contents is (area_journals place off) in
      off.makes start (subst (λ (area : Option (List ℕ)). Begins schema bytes_max area start) (ap (λ (c : Contents). c.area) same ∙ off.area_is) begins)

  areas_one : (place other : ℕ) → HasBadArea schema bytes_max place image → HasBadArea schema bytes_max other image → place ≡ other
  areas_one place other p q =
      p.place_is ∙ journals.one_root_gate (spelled schema) image p.contents q.contents p.root q.root p.gate q.gate p.is q.is ∙ sym q.place_is

  records_one : (place other : ℕ) → HasBadRecord schema bytes_max place image → HasBadRecord schema bytes_max other image → place ≡ other
  unfolding record_journals
  records_one place other p q =
      let same = one p.contents q.contents (record_journals place p) (record_journals other q) in
      let start = begins_one schema bytes_max q.contents.area p.start q.start (subst (λ (c : Contents). Begins schema bytes_max c.area p.start) same p.begins) q.begins in
      let are : p.before ++ p.bytes ∷ p.behind ≡ q.before ++ q.bytes ∷ q.behind = sym p.payloads_are ∙ ap (λ (c : Contents). c.payloads) same ∙ q.payloads_are in
      let stop = first_stop p.start p.before q.before p.bytes q.bytes p.behind q.behind p.db q.db are p.leads p.nowhere (subst (λ (d : Database). LeadAll d q.before q.db) (sym start) q.leads) q.nowhere in
      let gates = journals.one_gate (spelled schema) image p.contents q.contents (record_journals place p) (record_journals other q) in
      same_place place other p.gate q.gate (p.bytes ∷ p.behind) (q.bytes ∷ q.behind) p.place_is q.place_is gates stop

  pub one_place : (place other : ℕ) → IsDamagedFor schema bytes_max place image → IsDamagedFor schema bytes_max other image → place ≡ other
  one_place place other (inl p) (inl q) = reading.one_place (spelled schema) image place other p q
  one_place place other (inl p) (inr (inl q)) = absurd (journals.not_refused (spelled schema) image q.contents place (area_journals other q) q.low p)
  one_place place other (inl p) (inr (inr q)) = absurd (journals.not_refused (spelled schema) image q.contents place (record_journals other q) q.low p)
  one_place place other (inr (inl p)) (inl q) = absurd (journals.not_refused (spelled schema) image p.contents other (area_journals place p) p.low q)
  one_place place other (inr (inr p)) (inl q) = absurd (journals.not_refused (spelled schema) image p.contents other (record_journals place p) p.low q)
  one_place place other (inr (inl p)) (inr (inl q)) = areas_one place other p q
  one_place place other (inr (inl p)) (inr (inr q)) = absurd (area_begins place p q.contents (record_journals other q) q.start q.begins)
  one_place place other (inr (inr p)) (inr (inl q)) = absurd (area_begins other q p.contents (record_journals place p) p.start p.begins)
  one_place place other (inr (inr p)) (inr (inr q)) = records_one place other p q

  pub other_not_damaged : (place : ℕ) → HasOtherText (spelled schema) image → IsDamagedFor schema bytes_max place image → ⊥
  other_not_damaged place other (inl off) = reading.other_not_refused (spelled schema) image place other off
  other_not_damaged place other (inr (inl off)) = reading.not_other (spelled schema) image off.contents (area_journals place off) other
  other_not_damaged place other (inr (inr off)) = reading.not_other (spelled schema) image off.contents (record_journals place off) other

  -- a journal that leads to tables isn't damaged
  journal_not_damaged : (contents : Contents) (db : Database) (number place : ℕ) → Journals (spelled schema) contents image → Shows schema bytes_max contents db number → number < 2 ^ 63 → IsDamagedFor schema bytes_max place image → ⊥
  journal_not_damaged contents db number place is shows low (inl off) =
      journals.not_refused (spelled schema) image contents place is (omega (arith, low, shows.place_is)) off
  journal_not_damaged contents db number place is shows low (inr (inl off)) = area_begins place off contents is shows.start shows.begins
  journal_not_damaged contents db number place is shows low (inr (inr off)) =
      let same = one contents off.contents is (record_journals place off) in
      let start = begins_one schema bytes_max off.contents.area shows.start off.start (subst (λ (c : Contents). Begins schema bytes_max c.area shows.start) same shows.begins) off.begins in
      let all : LeadAll off.start (off.before ++ off.bytes ∷ off.behind) db =
      subst (λ (d : Database). LeadAll d (off.before ++ off.bytes ∷ off.behind) db) start
      (subst (λ (payloads : List (List ℕ)). LeadAll shows.start payloads db) (ap (λ (c : Contents). c.payloads) same ∙ off.payloads_are) shows.leads) in
      no_end off.start off.before off.bytes off.behind off.db db all off.leads off.nowhere

  fresh_not_damaged : (place : ℕ) → IsFresh image → IsDamagedFor schema bytes_max place image → ⊥
  fresh_not_damaged place fresh (inl off) = reading.fresh_not_refused (spelled schema) image place fresh off
  fresh_not_damaged place fresh (inr (inl off)) = reading.fresh_no_journal (spelled schema) image off.contents fresh (area_journals place off)
  fresh_not_damaged place fresh (inr (inr off)) = reading.fresh_no_journal (spelled schema) image off.contents fresh (record_journals place off)

  stands_not_damaged : (contents : Contents) (db : Database) (number place : ℕ) → StandsFor (spelled schema) contents image → Shows schema bytes_max contents db number → number < 2 ^ 63 → IsDamagedFor schema bytes_max place image → ⊥
  stands_not_damaged contents db number place (inl none) shows low off = fresh_not_damaged place none.0 off
  stands_not_damaged contents db number place (inr is) shows low off = journal_not_damaged contents db number place is shows low off

  stands_not_other : (contents : Contents) → StandsFor (spelled schema) contents image → HasOtherText (spelled schema) image → ⊥
  stands_not_other contents (inl none) other = reading.fresh_no_other (spelled schema) image none.0 other
  stands_not_other contents (inr is) other = reading.not_other (spelled schema) image contents is other

  pub shown_not_damaged : (db : Database) (number place : ℕ) → ImageShows schema bytes_max db number image → number < 2 ^ 63 → IsDamagedFor schema bytes_max place image → ⊥
  shown_not_damaged db number place shown low off = stands_not_damaged shown.contents db number place shown.journals shown.shows low off

  pub shown_not_other : (db : Database) (number : ℕ) → ImageShows schema bytes_max db number image → HasOtherText (spelled schema) image → ⊥
  shown_not_other db number shown other = stands_not_other shown.contents shown.journals other
