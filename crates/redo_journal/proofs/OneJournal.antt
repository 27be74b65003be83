-- An image of a journal has one last gate and one root, and isn't refused.
--     one_gate, one_root_gate      where two journals are read of it
--     not_refused      where its records have a number below 2^63
use Rattle.std.proofs.Common.{◌≡◌, ◌⊎◌, inl, inr, ℕ, ◌^◌, ◌<◌, List, length, ap, arith}
use Rattle.std.specs.Prelude.{Option, None, Some}
use Rattle.std.specs.List.{AllByRecursion}
use Rattle.redo_journal.specs.Bytes.{FitsLength, ClosedAt}
use Rattle.redo_journal.specs.Image.{Contents, Journals, IsImageAt, IsForm, count}
use Rattle.redo_journal.specs.Opening.{IsRefusedAt}
use Rattle.redo_journal.specs.Reading.{IsRootAt}
use Rattle.redo_journal.specs.declared.root.Root.{Root}
use Rattle.redo_journal.proofs.ReadingLaws.{IsPlainRun, IsWholeRun, runs, whole_run, one_whole, number_whole, shut_or_root, same_root_gate, not_damaged}
use Rattle.redo_journal.proofs.RootLaws.{FirstRun, one_first}
use Rattle.redo_journal.proofs.RunLemmas.{shut_blocks}
use Rattle.redo_journal.proofs.StandLemmas.{closed_within}

module _ (text image : List ℕ) where
  pub not_refused : (contents : Contents) (place : ℕ) → Journals text contents image → count contents < 2 ^ 63 → IsRefusedAt text place image → ⊥
  not_refused contents place is low (inl off) = not_damaged text image contents place is off
  not_refused contents place is low (inr off) =
      let whole = number_whole (2 ^ 63) text place image off in
      let run = whole_run text off.root off.first off.area off.payloads off.gate image whole in
      elim (runs text contents image is) [
        | inl p ↦ shut_or_root text contents.payloads off.is_rooted.has_root.before is.gate off.root.gate image p.2 run.0 p.3 run.1
        | inr p ↦
            let same = one_whole text p.root off.root contents.first off.first p.bytes off.area contents.payloads off.payloads is.gate off.gate image p.whole (inl p.shut) whole (inl off.shut) in
            omega (arith, low, off.high, same.0, ap (λ (l : List (List ℕ)). length l) same.2)
      ]

  pub one_gate : (a b : Contents) (is : Journals text a image) (is' : Journals text b image) → is.gate ≡ is'.gate
  one_gate a b is is' = go (runs text a image is) (runs text b image is')
    where
      go : IsPlainRun text a.first a.area a.payloads is.gate image ⊎ IsWholeRun text a.first a.area a.payloads is.gate image → IsPlainRun text b.first b.area b.payloads is'.gate image ⊎ IsWholeRun text b.first b.area b.payloads is'.gate image → is.gate ≡ is'.gate
      go (inl p) (inl q) =
          (one_first text a.payloads b.payloads is.gate is'.gate image p.2 (shut_blocks _ is.gate image p.3) q.2 (shut_blocks _ is'.gate image q.3)).1
      go (inl p) (inr q) =
          let run = whole_run text q.root b.first q.bytes b.payloads is'.gate image q.whole in
          absurd (shut_or_root text a.payloads q.whole.is_rooted.has_root.before is.gate q.root.gate image p.2 run.0 p.3 run.1)
      go (inr p) (inl q) =
          let run = whole_run text p.root a.first p.bytes a.payloads is.gate image p.whole in
          absurd (shut_or_root text b.payloads p.whole.is_rooted.has_root.before is'.gate p.root.gate image q.2 run.0 q.3 run.1)
      go (inr p) (inr q) =
          (one_whole text p.root q.root a.first b.first p.bytes q.bytes a.payloads b.payloads is.gate is'.gate image p.whole (inl p.shut) q.whole (inl q.shut)).3

  -- the records behind the header end at the root
  record EndsAtRoot (root : Root) : Type 0 where
    before : List (List ℕ)
    run : FirstRun text before root.gate image
    is_root : IsRootAt root.gate image

  ends_at_root : (first : ℕ) (area : Option (List ℕ)) (payloads : List (List ℕ)) (root : Root) (gate : ℕ) → FitsLength text → AllByRecursion FitsLength payloads → ClosedAt gate image → IsForm text first payloads area (Some root) gate image → EndsAtRoot root
  ends_at_root first None payloads root gate fits fit shut form = absurd form
  ends_at_root first (Some bytes) payloads root gate fits fit shut form =
      let run = whole_run text root first bytes payloads gate image (record { text_fits = fits; payloads_fit = fit; selects = form.1; is_rooted = form.2; within = closed_within gate image shut }) in
      record { before = form.2.has_root.before; run = run.0; is_root = run.1 }

  pub one_root_gate : (a b : Contents) (root other : Root) (gate last : ℕ) → IsImageAt text a (Some root) gate image → IsImageAt text b (Some other) last image → root.gate ≡ other.gate
  one_root_gate a b root other gate last is is' =
      let one = ends_at_root a.first a.area a.payloads root gate is.text_fits is.payloads_fit is.shut is.form in
      let two = ends_at_root b.first b.area b.payloads other last is'.text_fits is'.payloads_fit is'.shut is'.form in
      same_root_gate text image one.before two.before root.gate other.gate one.run one.is_root two.run two.is_root
