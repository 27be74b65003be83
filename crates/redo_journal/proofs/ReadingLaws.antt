-- An image reads one way.
use Rattle.std.proofs.Common.{◌≡◌, ◌≢◌, ◌⊎◌, inl, inr, ℕ, ◌+◌, ◌^◌, ◌<◌, ◌≤◌, List, [], ◌∷◌, ◌++◌, length, drop, refl, sym, ◌∙◌, ap, subst, arith, length-drop}
use Rattle.std.specs.Prelude.{Option, None, Some}
use Rattle.std.specs.List.{AllByRecursion}
use Rattle.redo_journal.specs.Bytes.{FitsLength, StandsAt, ClosedAt, IsCutShort, front, heading}
use Rattle.redo_journal.specs.Damage.{HasOtherText, HasDamagedHeader, HasDamagedRecord, HasDamagedRoot, HasDamagedSegment, HasHighNumber, IsDamagedAt}
use Rattle.redo_journal.specs.Image.{Contents, Journals, IsForm, IsRooted, IsSegmentAt, IsFresh}
use Rattle.redo_journal.specs.Opening.{IsRefusedAt}
use Rattle.redo_journal.specs.Reading.{BreaksAt, IsRootAt}
use Rattle.redo_journal.specs.Root.{Selects, root_end}
use Rattle.redo_journal.specs.declared.root.Root.{Root}
use Rattle.redo_journal.proofs.OpenLemmas.{Any}
use Rattle.redo_journal.proofs.RootLaws.{FirstRun, first_run, one_first, root_run, one_root, one_segment, segment_not_cut, far}
use Rattle.redo_journal.proofs.RunLemmas.{Blocks, shut_blocks, broken_blocks, root_blocks, root_not_shut, root_not_broken, shut_not_broken, same_text, not_cut}
use Rattle.redo_journal.proofs.StandLemmas.{closed_within, front_is, stands_split, stands_within}

-- a journal with a root, up to this gate
pub record Whole (text : List ℕ) (root : Root) (first : ℕ) (area : List ℕ) (payloads : List (List ℕ)) (gate : ℕ) (image : List ℕ) : Type 0 where
  pub text_fits : FitsLength text
  pub payloads_fit : AllByRecursion FitsLength payloads
  pub selects : Selects root image
  pub is_rooted : IsRooted text first area payloads root gate image
  pub within : gate < length image

pub whole_run : (text : List ℕ) (root : Root) (first : ℕ) (area : List ℕ) (payloads : List (List ℕ)) (gate : ℕ) (image : List ℕ) → (whole : Whole text root first area payloads gate image) → FirstRun text whole.is_rooted.has_root.before root.gate image × IsRootAt root.gate image
whole_run text root first area payloads gate image whole =
    root_run text root image whole.text_fits whole.is_rooted.has_root (omega (arith, whole.is_rooted.behind, whole.within, far root.live first area payloads gate image whole.is_rooted.segment))

-- the records behind the header end at one gate, in one way
module _ (text : List ℕ) (ps qs : List (List ℕ)) (g h : ℕ) (image : List ℕ) (one : FirstRun text ps g image) (other : FirstRun text qs h image) where
  pub both_shut : ClosedAt g image → ClosedAt h image → ps ≡ qs
  both_shut shut shut' = (one_first text ps qs g h image one (shut_blocks _ g image shut) other (shut_blocks _ h image shut')).0

  pub both_rooted : IsRootAt g image → IsRootAt h image → g ≡ h
  both_rooted root root' = (one_first text ps qs g h image one (root_blocks g image root) other (root_blocks h image root')).1

  pub both_broken : BreaksAt g image → BreaksAt h image → g ≡ h
  both_broken breaks breaks' = (one_first text ps qs g h image one (broken_blocks _ g image breaks) other (broken_blocks _ h image breaks')).1

  pub shut_or_root : ClosedAt g image → IsRootAt h image → ⊥
  shut_or_root shut root =
      let at = (one_first text ps qs g h image one (shut_blocks _ g image shut) other (root_blocks h image root)).1 in
      root_not_shut h image root (subst (λ (n : ℕ). ClosedAt n image) at shut)

  pub shut_or_broken : ClosedAt g image → BreaksAt h image → ⊥
  shut_or_broken shut breaks =
      let at = (one_first text ps qs g h image one (shut_blocks _ g image shut) other (broken_blocks _ h image breaks)).1 in
      shut_not_broken h image (subst (λ (n : ℕ). ClosedAt n image) at shut) breaks

  pub root_or_broken : IsRootAt g image → BreaksAt h image → ⊥
  root_or_broken root breaks =
      let at = (one_first text ps qs g h image one (root_blocks g image root) other (broken_blocks _ h image breaks)).1 in
      root_not_broken h image (subst (λ (n : ℕ). IsRootAt n image) at root) breaks

-- a journal with a root is one
pub one_whole : (text : List ℕ) (root other : Root) (first second : ℕ) (area more : List ℕ) (ps qs : List (List ℕ)) (g h : ℕ) (image : List ℕ) → Whole text root first area ps g image → (ClosedAt g image ⊎ BreaksAt g image) → Whole text other second more qs h image → (ClosedAt h image ⊎ BreaksAt h image) → (first ≡ second) × (area ≡ more) × (ps ≡ qs) × (g ≡ h)
one_whole text root other first second area more ps qs g h image whole ends whole' ends' =
    one_segment root.live first second area more ps qs g h image whole.is_rooted.segment whole.payloads_fit whole.within (blocks g ends) (subst (λ (r : Root). IsSegmentAt r.live second more qs h image) (sym same) whole'.is_rooted.segment) whole'.payloads_fit whole'.within (blocks h ends')
  where
    run : FirstRun text whole.is_rooted.has_root.before root.gate image × IsRootAt root.gate image
    run = whole_run text root first area ps g image whole

    run' : FirstRun text whole'.is_rooted.has_root.before other.gate image × IsRootAt other.gate image
    run' = whole_run text other second more qs h image whole'

    same : root ≡ other
    same = one_root image root other (both_rooted text whole.is_rooted.has_root.before whole'.is_rooted.has_root.before root.gate other.gate image run.0 run'.0 run.1 run'.1) whole.selects whole'.selects whole.is_rooted.has_cell whole'.is_rooted.has_cell

    blocks : (gate : ℕ) → ClosedAt gate image ⊎ BreaksAt gate image → Blocks Any gate image
    blocks gate (inl shut) = shut_blocks Any gate image shut
    blocks gate (inr breaks) = broken_blocks Any gate image breaks

-- what a journal's image is
abbrev pub IsPlainRun : List ℕ → ℕ → Option (List ℕ) → List (List ℕ) → ℕ → List ℕ → Type 0
IsPlainRun text first area payloads gate image =
    (first ≡ 0) × (area ≡ None) × FirstRun text payloads gate image × ClosedAt gate image

pub record IsWholeRun (text : List ℕ) (first : ℕ) (area : Option (List ℕ)) (payloads : List (List ℕ)) (gate : ℕ) (image : List ℕ) : Type 0 where
  pub root : Root
  pub bytes : List ℕ
  pub area_is : area ≡ Some bytes
  pub low : first + length payloads < 2 ^ 64
  pub whole : Whole text root first bytes payloads gate image
  pub shut : ClosedAt gate image

form_run : (text : List ℕ) (first : ℕ) (payloads : List (List ℕ)) (area : Option (List ℕ)) (root : Option Root) (gate : ℕ) (image : List ℕ) → FitsLength text → AllByRecursion FitsLength payloads → ClosedAt gate image → IsForm text first payloads area root gate image → IsPlainRun text first area payloads gate image ⊎ IsWholeRun text first area payloads gate image
form_run text first payloads None None gate image fits fit shut is =
    inl (is.0, refl, first_run text payloads gate image fits fit is.1.none_is_root is.1.stands is.1.gate_is (closed_within gate image shut), shut)
form_run text first payloads None (Some root) gate image fits fit shut is = absurd is
form_run text first payloads (Some area) None gate image fits fit shut is = absurd is
form_run text first payloads (Some area) (Some root) gate image fits fit shut is = inr (record {
  root = root;
  bytes = area;
  area_is = refl;
  low = is.0;
  whole = record { text_fits = fits; payloads_fit = fit; selects = is.1; is_rooted = is.2; within = closed_within gate image shut };
  shut = shut;
})

pub runs : (text : List ℕ) (contents : Contents) (image : List ℕ) (is : Journals text contents image) → IsPlainRun text contents.first contents.area contents.payloads is.gate image ⊎ IsWholeRun text contents.first contents.area contents.payloads is.gate image
runs text contents image is =
    form_run text contents.first contents.payloads contents.area is.root is.gate image is.is.text_fits is.is.payloads_fit is.is.shut is.is.form

-- the four kinds of damage behind a whole header
record_run : (text : List ℕ) (place : ℕ) (image : List ℕ) → (off : HasDamagedRecord text place image) → FirstRun text off.payloads place image × BreaksAt place image
record_run text place image off = (
  first_run text off.payloads place image off.text_fits off.payloads_fit off.none_is_root parts.0 off.place_is (omega (arith, stands_within place 1 [] image gate)),
  record { open_gate = gate; cut = off.cut },
)
  where
    parts : StandsAt 0 (front text off.payloads) image × StandsAt (0 + length (front text off.payloads)) (1 ∷ []) image
    parts = stands_split 0 (front text off.payloads) (1 ∷ []) image off.stands

    gate : StandsAt place (1 ∷ []) image
    gate = subst (λ (p : ℕ). StandsAt p (1 ∷ []) image) (omega (arith, off.place_is)) parts.1

damaged_root_run : (text : List ℕ) (place : ℕ) (image : List ℕ) → (off : HasDamagedRoot text place image) → FirstRun text off.has_root.before off.root.gate image × IsRootAt off.root.gate image
damaged_root_run text place image off = root_run text off.root image off.text_fits off.has_root off.whole

abbrev segment_whole : (text : List ℕ) (place : ℕ) (image : List ℕ) → (off : HasDamagedSegment text place image) → Whole text off.root off.first off.area off.payloads place image × BreaksAt place image
segment_whole text place image off = (
  record { text_fits = off.text_fits; payloads_fit = off.payloads_fit; selects = off.selects; is_rooted = off.is_rooted; within = omega (arith, stands_within place 1 [] image off.open_gate) },
  record { open_gate = off.open_gate; cut = off.cut },
)

abbrev pub number_whole : (limit : ℕ) (text : List ℕ) (place : ℕ) (image : List ℕ) → (off : HasHighNumber limit text place image) → Whole text off.root off.first off.area off.payloads off.gate image
number_whole limit text place image off =
    record { text_fits = off.text_fits; payloads_fit = off.payloads_fit; selects = off.selects; is_rooted = off.is_rooted; within = closed_within off.gate image off.shut }

-- a whole segment is none that is damaged at its root
whole_not_bad : (text : List ℕ) (root : Root) (first : ℕ) (area : List ℕ) (payloads : List (List ℕ)) (gate place : ℕ) (image : List ℕ) → Whole text root first area payloads gate image → HasDamagedRoot text place image → ⊥
whole_not_bad text root first area payloads gate place image whole off = bad off.bad
  where
    run : FirstRun text whole.is_rooted.has_root.before root.gate image × IsRootAt root.gate image
    run = whole_run text root first area payloads gate image whole

    run' : FirstRun text off.has_root.before off.root.gate image × IsRootAt off.root.gate image
    run' = damaged_root_run text place image off

    same : root ≡ off.root
    same = one_root image root off.root (both_rooted text whole.is_rooted.has_root.before off.has_root.before root.gate off.root.gate image run.0 run'.0 run.1 run'.1) whole.selects off.selects whole.is_rooted.has_cell off.has_cell

    bad : (off.root.live ≤ root_end off.root) ⊎ IsCutShort (drop (off.root.live + 8) image) → ⊥
    bad (inl le) = omega (arith, le, whole.is_rooted.behind, ap (λ (r : Root). r.live) same, ap (λ (r : Root). r.gate) same)
    bad (inr cut) = segment_not_cut root.live first area payloads gate image whole.is_rooted.segment whole.within (subst (λ (r : Root). IsCutShort (drop (r.live + 8) image)) (sym same) cut)

module _ (text image : List ℕ) where
  pub one_contents : (a b : Contents) → Journals text a image → Journals text b image → a ≡ b
  one_contents a b is is' = go (runs text a image is) (runs text b image is')
    where
      go : IsPlainRun text a.first a.area a.payloads is.gate image ⊎ IsWholeRun text a.first a.area a.payloads is.gate image → IsPlainRun text b.first b.area b.payloads is'.gate image ⊎ IsWholeRun text b.first b.area b.payloads is'.gate image → a ≡ b
      go (inl p) (inl q) =
          let first : a.first ≡ b.first = p.0 ∙ sym q.0 in
          let area : a.area ≡ b.area = p.1 ∙ sym q.1 in
          let payloads : a.payloads ≡ b.payloads = both_shut text a.payloads b.payloads is.gate is'.gate image p.2 q.2 p.3 q.3 in
          λ i. record { first = first i; area = area i; payloads = payloads i }
      go (inl p) (inr q) =
          let run = whole_run text q.root b.first q.bytes b.payloads is'.gate image q.whole in
          absurd (shut_or_root text a.payloads q.whole.is_rooted.has_root.before is.gate q.root.gate image p.2 run.0 p.3 run.1)
      go (inr p) (inl q) =
          let run = whole_run text p.root a.first p.bytes a.payloads is.gate image p.whole in
          absurd (shut_or_root text b.payloads p.whole.is_rooted.has_root.before is'.gate p.root.gate image q.2 run.0 q.3 run.1)
      go (inr p) (inr q) =
          let same = one_whole text p.root q.root a.first b.first p.bytes q.bytes a.payloads b.payloads is.gate is'.gate image p.whole (inl p.shut) q.whole (inl q.shut) in
          let area : a.area ≡ b.area = p.area_is ∙ ap (λ (l : List ℕ). Some l) same.1 ∙ sym q.area_is in
          λ i. record { first = same.0 i; area = area i; payloads = same.2 i }

  -- a whole header is read one way
  same_header : (other rest more : List ℕ) → FitsLength text → FitsLength other → (1 ∷ heading text) ++ rest ≡ (1 ∷ heading other) ++ more → (text ≡ other) × (rest ≡ more)
  same_header other rest more fits other_fits is = same_text text other rest more fits other_fits (ap (λ (l : List ℕ). drop 9 l) is)

  -- and isn't damaged
  header_whole : (header rest : List ℕ) → FitsLength header → 0 < length rest → image ≡ (1 ∷ heading header) ++ rest → HasDamagedHeader image → ⊥
  header_whole header rest fits follows is damaged = go (subst HasDamagedHeader is damaged)
    where
      go : HasDamagedHeader ((1 ∷ heading header) ++ rest) → ⊥
      go d = elim d.2 [
        | inl other ↦ other refl
        | inr cut ↦ not_cut header rest fits follows cut
      ]

  run_header : (payloads : List (List ℕ)) (gate : ℕ) → FirstRun text payloads gate image → HasDamagedHeader image → ⊥
  run_header payloads gate run damaged =
      header_whole text (drop (length (1 ∷ heading text)) image) run.text_fits (omega (arith, run.run.within, run.run.gate_is, length-drop (length (1 ∷ heading text)) image)) (front_is (1 ∷ heading text) image run.header) damaged

  run_other : (payloads : List (List ℕ)) (gate : ℕ) → FirstRun text payloads gate image → HasOtherText text image → ⊥
  run_other payloads gate run q =
      q.differs (sym (same_header q.other (drop (length (1 ∷ heading text)) image) q.rest run.text_fits q.fits (sym (front_is (1 ∷ heading text) image run.header) ∙ q.is)).0)

  run_fresh : (payloads : List (List ℕ)) (gate : ℕ) → FirstRun text payloads gate image → IsFresh image → ⊥
  run_fresh payloads gate run fresh = begun (drop (length (1 ∷ heading text)) image) text (front_is (1 ∷ heading text) image run.header) fresh
    where
      begun : (behind other : List ℕ) → image ≡ (1 ∷ heading other) ++ behind → IsFresh image → ⊥
      begun behind other is fresh = subst IsFresh is fresh refl

  -- whatever is no fresh image, has a whole header where it is a journal's or damaged behind it
  record Begins : Type 0 where
    payloads : List (List ℕ)
    gate : ℕ
    run : FirstRun text payloads gate image

  journals_begin : (contents : Contents) → Journals text contents image → Begins
  journals_begin contents is = elim (runs text contents image is) [
    | inl p ↦ record { payloads = contents.payloads; gate = is.gate; run = p.2 }
    | inr p ↦ record { payloads = p.whole.is_rooted.has_root.before; gate = p.root.gate; run = (whole_run text p.root contents.first p.bytes contents.payloads is.gate image p.whole).0 }
  ]

  -- each cause of a refusal, with the lower limit of the number
  Cause : ℕ → Type 0
  Cause place =
      ((place ≡ 0) × HasDamagedHeader image)
      ⊎ HasDamagedRecord text place image
      ⊎ HasDamagedRoot text place image
      ⊎ HasDamagedSegment text place image
      ⊎ HasHighNumber (2 ^ 63) text place image

  lower : (place : ℕ) → HasHighNumber (2 ^ 64) text place image → HasHighNumber (2 ^ 63) text place image
  lower place off = record {
    root = off.root;
    first = off.first;
    area = off.area;
    payloads = off.payloads;
    gate = off.gate;
    text_fits = off.text_fits;
    payloads_fit = off.payloads_fit;
    selects = off.selects;
    is_rooted = off.is_rooted;
    shut = off.shut;
    place_is = off.place_is;
    high = omega (arith, off.high);
  }

  cause : (place : ℕ) → IsRefusedAt text place image → Cause place
  unfolding Cause
  cause place (inl (inl off)) = inl off
  cause place (inl (inr (inl off))) = inr (inl off)
  cause place (inl (inr (inr (inl off)))) = inr (inr (inl off))
  cause place (inl (inr (inr (inr (inl off))))) = inr (inr (inr (inl off)))
  cause place (inl (inr (inr (inr (inr off))))) = inr (inr (inr (inr (lower place off))))
  cause place (inr off) = inr (inr (inr (inr off)))

  -- where the first run of a cause ends: at a record that breaks off, or at a root
  record Ends (place : ℕ) : Type 0 where
    payloads : List (List ℕ)
    gate : ℕ
    run : FirstRun text payloads gate image
    ends : ((place ≡ gate) × BreaksAt gate image) ⊎ IsRootAt gate image

  record_ends : (place : ℕ) → HasDamagedRecord text place image → Ends place
  record_ends place off =
      let run = record_run text place image off in
      record { payloads = off.payloads; gate = place; run = run.0; ends = inl (refl, run.1) }

  root_ends : (place : ℕ) → HasDamagedRoot text place image → Ends place
  root_ends place off =
      let run = damaged_root_run text place image off in
      record { payloads = off.has_root.before; gate = off.root.gate; run = run.0; ends = inr run.1 }

  segment_ends : (place : ℕ) → HasDamagedSegment text place image → Ends place
  segment_ends place off =
      let run = whole_run text off.root off.first off.area off.payloads place image (segment_whole text place image off).0 in
      record { payloads = off.is_rooted.has_root.before; gate = off.root.gate; run = run.0; ends = inr run.1 }

  number_ends : (place : ℕ) → HasHighNumber (2 ^ 63) text place image → Ends place
  number_ends place off =
      let run = whole_run text off.root off.first off.area off.payloads off.gate image (number_whole (2 ^ 63) text place image off) in
      record { payloads = off.is_rooted.has_root.before; gate = off.root.gate; run = run.0; ends = inr run.1 }

  cause_begins : (place : ℕ) → Cause place → HasDamagedHeader image ⊎ Ends place
  unfolding Cause
  cause_begins place (inl off) = inl off.1
  cause_begins place (inr (inl off)) = inr (record_ends place off)
  cause_begins place (inr (inr (inl off))) = inr (root_ends place off)
  cause_begins place (inr (inr (inr (inl off)))) = inr (segment_ends place off)
  cause_begins place (inr (inr (inr (inr off)))) = inr (number_ends place off)

  header_or_run : (place : ℕ) → HasDamagedHeader image → Ends place → ⊥
  header_or_run place damaged e = run_header e.payloads e.gate e.run damaged

  -- a record breaks off behind the header, and another cause is at a root
  record_or_root : (place other : ℕ) → HasDamagedRecord text place image → (payloads : List (List ℕ)) (gate : ℕ) → FirstRun text payloads gate image → IsRootAt gate image → ⊥
  record_or_root place other off payloads gate run root =
      let broken = record_run text place image off in
      root_or_broken text payloads off.payloads gate place image run broken.0 root broken.1

  pub same_root_gate : (payloads more : List (List ℕ)) (gate other : ℕ) → FirstRun text payloads gate image → IsRootAt gate image → FirstRun text more other image → IsRootAt other image → gate ≡ other
  same_root_gate payloads more gate other run root run' root' = both_rooted text payloads more gate other image run run' root root'

  segment_or_number : (place other : ℕ) → HasDamagedSegment text place image → HasHighNumber (2 ^ 63) text other image → ⊥
  segment_or_number place other p q =
      let whole = segment_whole text place image p in
      let same = one_whole text p.root q.root p.first q.first p.area q.area p.payloads q.payloads place q.gate image whole.0 (inr whole.1) (number_whole (2 ^ 63) text other image q) (inl q.shut) in
      shut_not_broken q.gate image q.shut (subst (λ (g : ℕ). BreaksAt g image) same.3 whole.1)

  one_cause : (place other : ℕ) → Cause place → Cause other → place ≡ other
  unfolding Cause
  one_cause place other (inl p) (inl q) = p.0 ∙ sym q.0
  one_cause place other (inl p) (inr (inl q)) = absurd (header_or_run other p.1 (record_ends other q))
  one_cause place other (inl p) (inr (inr (inl q))) = absurd (header_or_run other p.1 (root_ends other q))
  one_cause place other (inl p) (inr (inr (inr (inl q)))) = absurd (header_or_run other p.1 (segment_ends other q))
  one_cause place other (inl p) (inr (inr (inr (inr q)))) = absurd (header_or_run other p.1 (number_ends other q))
  one_cause place other (inr (inl p)) (inl q) = absurd (header_or_run place q.1 (record_ends place p))
  one_cause place other (inr (inr (inl p))) (inl q) = absurd (header_or_run place q.1 (root_ends place p))
  one_cause place other (inr (inr (inr (inl p)))) (inl q) = absurd (header_or_run place q.1 (segment_ends place p))
  one_cause place other (inr (inr (inr (inr p)))) (inl q) = absurd (header_or_run place q.1 (number_ends place p))
  one_cause place other (inr (inl p)) (inr (inl q)) =
      let a = record_run text place image p in
      let b = record_run text other image q in
      both_broken text p.payloads q.payloads place other image a.0 b.0 a.1 b.1
  one_cause place other (inr (inl p)) (inr (inr (inl q))) =
      let b = damaged_root_run text other image q in
      absurd (record_or_root place other p q.has_root.before q.root.gate b.0 b.1)
  one_cause place other (inr (inl p)) (inr (inr (inr (inl q)))) =
      let b = whole_run text q.root q.first q.area q.payloads other image (segment_whole text other image q).0 in
      absurd (record_or_root place other p q.is_rooted.has_root.before q.root.gate b.0 b.1)
  one_cause place other (inr (inl p)) (inr (inr (inr (inr q)))) =
      let b = whole_run text q.root q.first q.area q.payloads q.gate image (number_whole (2 ^ 63) text other image q) in
      absurd (record_or_root place other p q.is_rooted.has_root.before q.root.gate b.0 b.1)
  one_cause place other (inr (inr (inl p))) (inr (inl q)) =
      let a = damaged_root_run text place image p in
      absurd (record_or_root other place q p.has_root.before p.root.gate a.0 a.1)
  one_cause place other (inr (inr (inr (inl p)))) (inr (inl q)) =
      let a = whole_run text p.root p.first p.area p.payloads place image (segment_whole text place image p).0 in
      absurd (record_or_root other place q p.is_rooted.has_root.before p.root.gate a.0 a.1)
  one_cause place other (inr (inr (inr (inr p)))) (inr (inl q)) =
      let a = whole_run text p.root p.first p.area p.payloads p.gate image (number_whole (2 ^ 63) text place image p) in
      absurd (record_or_root other place q p.is_rooted.has_root.before p.root.gate a.0 a.1)
  one_cause place other (inr (inr (inl p))) (inr (inr (inl q))) =
      let a = damaged_root_run text place image p in
      let b = damaged_root_run text other image q in
      p.place_is ∙ same_root_gate p.has_root.before q.has_root.before p.root.gate q.root.gate a.0 a.1 b.0 b.1 ∙ sym q.place_is
  one_cause place other (inr (inr (inl p))) (inr (inr (inr (inl q)))) =
      absurd (whole_not_bad text q.root q.first q.area q.payloads other place image (segment_whole text other image q).0 p)
  one_cause place other (inr (inr (inl p))) (inr (inr (inr (inr q)))) =
      absurd (whole_not_bad text q.root q.first q.area q.payloads q.gate place image (number_whole (2 ^ 63) text other image q) p)
  one_cause place other (inr (inr (inr (inl p)))) (inr (inr (inl q))) =
      absurd (whole_not_bad text p.root p.first p.area p.payloads place other image (segment_whole text place image p).0 q)
  one_cause place other (inr (inr (inr (inr p)))) (inr (inr (inl q))) =
      absurd (whole_not_bad text p.root p.first p.area p.payloads p.gate other image (number_whole (2 ^ 63) text place image p) q)
  one_cause place other (inr (inr (inr (inl p)))) (inr (inr (inr (inl q)))) =
      let a = segment_whole text place image p in
      let b = segment_whole text other image q in
      (one_whole text p.root q.root p.first q.first p.area q.area p.payloads q.payloads place other image a.0 (inr a.1) b.0 (inr b.1)).3
  one_cause place other (inr (inr (inr (inl p)))) (inr (inr (inr (inr q)))) = absurd (segment_or_number place other p q)
  one_cause place other (inr (inr (inr (inr p)))) (inr (inr (inr (inl q)))) = absurd (segment_or_number other place q p)
  one_cause place other (inr (inr (inr (inr p)))) (inr (inr (inr (inr q)))) =
      let a = whole_run text p.root p.first p.area p.payloads p.gate image (number_whole (2 ^ 63) text place image p) in
      let b = whole_run text q.root q.first q.area q.payloads q.gate image (number_whole (2 ^ 63) text other image q) in
      p.place_is ∙ same_root_gate p.is_rooted.has_root.before q.is_rooted.has_root.before p.root.gate q.root.gate a.0 a.1 b.0 b.1 ∙ sym q.place_is

  pub one_place : (place other : ℕ) → IsRefusedAt text place image → IsRefusedAt text other image → place ≡ other
  one_place place other p q = one_cause place other (cause place p) (cause other q)

  pub not_other : (contents : Contents) → Journals text contents image → HasOtherText text image → ⊥
  not_other contents is q =
      let b = journals_begin contents is in
      run_other b.payloads b.gate b.run q

  pub not_damaged : (contents : Contents) (place : ℕ) → Journals text contents image → IsDamagedAt text place image → ⊥
  not_damaged contents place is (inl header) =
      let b = journals_begin contents is in
      run_header b.payloads b.gate b.run header.1
  not_damaged contents place is (inr (inl off)) =
      let broken = record_run text place image off in
      elim (runs text contents image is) [
        | inl p ↦ shut_or_broken text contents.payloads off.payloads is.gate place image p.2 broken.0 p.3 broken.1
        | inr p ↦
            let run = whole_run text p.root contents.first p.bytes contents.payloads is.gate image p.whole in
            record_or_root place place off p.whole.is_rooted.has_root.before p.root.gate run.0 run.1
      ]
  not_damaged contents place is (inr (inr (inl off))) =
      let run = damaged_root_run text place image off in
      elim (runs text contents image is) [
        | inl p ↦ shut_or_root text contents.payloads off.has_root.before is.gate off.root.gate image p.2 run.0 p.3 run.1
        | inr p ↦ whole_not_bad text p.root contents.first p.bytes contents.payloads is.gate place image p.whole off
      ]
  not_damaged contents place is (inr (inr (inr (inl off)))) =
      let whole = segment_whole text place image off in
      let run = whole_run text off.root off.first off.area off.payloads place image whole.0 in
      elim (runs text contents image is) [
        | inl p ↦ shut_or_root text contents.payloads off.is_rooted.has_root.before is.gate off.root.gate image p.2 run.0 p.3 run.1
        | inr p ↦
            let same = one_whole text p.root off.root contents.first off.first p.bytes off.area contents.payloads off.payloads is.gate place image p.whole (inl p.shut) whole.0 (inr whole.1) in
            shut_not_broken place image (subst (λ (g : ℕ). ClosedAt g image) same.3 p.shut) whole.1
      ]
  not_damaged contents place is (inr (inr (inr (inr off)))) =
      let whole = number_whole (2 ^ 64) text place image off in
      let run = whole_run text off.root off.first off.area off.payloads off.gate image whole in
      elim (runs text contents image is) [
        | inl p ↦ shut_or_root text contents.payloads off.is_rooted.has_root.before is.gate off.root.gate image p.2 run.0 p.3 run.1
        | inr p ↦
            let same = one_whole text p.root off.root contents.first off.first p.bytes off.area contents.payloads off.payloads is.gate off.gate image p.whole (inl p.shut) whole (inl off.shut) in
            omega (arith, p.low, off.high, same.0, ap (λ (l : List (List ℕ)). length l) same.2)
      ]

  other_header : HasOtherText text image → HasDamagedHeader image → ⊥
  other_header q damaged = header_whole q.other q.rest q.fits (some q.rest q.gate) q.is damaged
    where
      some : (bytes : List ℕ) → bytes ≢ [] → 0 < length bytes
      some [] none = absurd (none refl)
      some (byte ∷ bytes) more = omega arith

  pub other_not_refused : (place : ℕ) → HasOtherText text image → IsRefusedAt text place image → ⊥
  other_not_refused place q off = elim (cause_begins place (cause place off)) [
    | inl header ↦ other_header q header
    | inr e ↦ run_other e.payloads e.gate e.run q
  ]

  pub fresh_no_journal : (contents : Contents) → IsFresh image → Journals text contents image → ⊥
  fresh_no_journal contents fresh is =
      let b = journals_begin contents is in
      run_fresh b.payloads b.gate b.run fresh

  pub fresh_no_other : IsFresh image → HasOtherText text image → ⊥
  fresh_no_other fresh q = subst IsFresh q.is fresh refl

fresh_no_header : (image : List ℕ) → IsFresh image → HasDamagedHeader image → ⊥
fresh_no_header [] fresh damaged = damaged
fresh_no_header (gate ∷ []) fresh damaged = damaged.1 refl
fresh_no_header (gate ∷ byte ∷ rest) fresh damaged = fresh damaged.0

pub fresh_not_refused : (text image : List ℕ) (place : ℕ) → IsFresh image → IsRefusedAt text place image → ⊥
fresh_not_refused text image place fresh off = elim (cause_begins text image place (cause text image place off)) [
  | inl header ↦ fresh_no_header image fresh header
  | inr e ↦ run_fresh text image e.payloads e.gate e.run fresh
]
