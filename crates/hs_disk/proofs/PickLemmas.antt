-- What a crash is taken to leave is one of the images.
use Rattle.std.proofs.Common.{◌≡◌, inl, inr, ℕ, zero, suc, ◌+◌, ◌-◌, ◌≤◌, min, List, [], ◌∷◌, ◌++◌, length, take, drop, refl, sym, ◌∙◌, ap, subst, arith}
use Rattle.std.proofs.lemmas.List.{length-take, drop-drop, length-replicate}
use Rattle.hs_disk.specs.Disk.{written, Torn}
use Rattle.hs_disk.specs.Images.{read_after, read_at_end, images_after, images_at_end, WasImageAt}
use Rattle.hs_disk.specs.Picks.{ones, left_after, left_at_end, picked, IsWithin, AreWithin}
use Rattle.hs_disk.specs.declared.change.Change.{Change}
use Rattle.hs_disk.specs.declared.change.Change.TheVariants.{Wrote, LostWrite, CutTo, LostCut, Synced, Lost}
use Rattle.hs_disk.specs.declared.pick.Pick.{Pick}
use Rattle.hs_disk.specs.declared.pick.Pick.TheVariants.{Kept, Written, Ones}
use Rattle.hs_disk.proofs.ImageLemmas.{torn_same, torn_written, length-written}

-- a write that was cut short within a part of its range was so within all of it
torn_wider : (at n m : ℕ) (old new : List ℕ) → n ≤ m → Torn at n old new → Torn at m old new
torn_wider at n m old new le torn = record {
  before = torn.before;
  after = further new ∙ ap (λ (l : List ℕ). drop (m - n) l) torn.after ∙ sym (further old);
  no_shorter = torn.no_shorter;
  no_longer = omega (arith, torn.no_longer, le);
}
  where
    further : (l : List ℕ) → drop (at + m) l ≡ drop (m - n) (drop (at + n) l)
    further l = ap (λ (k : ℕ). drop k l) (omega (arith, le)) ∙ sym (drop-drop (m - n) (at + n) l)

-- but where it keeps what was synced, what is left is as long as what a read gives
abbrev pub IsAsLong : Pick → List ℕ → List ℕ → Type 0
IsAsLong Kept left seen = Unit {0}
IsAsLong Written left seen = length left ≡ length seen
IsAsLong Ones left seen = length left ≡ length seen

as_long_after : (pick : Pick) (change : Change) (seen left : List ℕ) → IsWithin change seen → IsAsLong pick left seen → IsAsLong pick (left_after pick change seen left) (read_after change seen)
as_long_after Kept change seen left within long = tt
as_long_after Written (Wrote at bytes) seen left within long =
    omega (arith, length-written at bytes left (omega (arith, within, long)), length-written at bytes seen within, long)
as_long_after Written (LostWrite at n) seen left within long = long
as_long_after Written (CutTo n) seen left within long = omega (arith, length-take n left, length-take n seen, long)
as_long_after Written (LostCut n) seen left within long = long
as_long_after Written Synced seen left within long = refl
as_long_after Written Lost seen left within long = long
as_long_after Ones (Wrote at bytes) seen left within long =
    omega (arith, length-written at (ones (length bytes)) left (omega (arith, within, long)), length-written at bytes seen within, long, length-replicate {A = ℕ} (length bytes) 1)
as_long_after Ones (LostWrite at n) seen left within long =
    omega (arith, length-written at (ones (min n (length left - at))) left (omega (arith, within, long)), long, length-replicate {A = ℕ} (min n (length left - at)) 1, within)
as_long_after Ones (CutTo n) seen left within long = omega (arith, length-take n left, length-take n seen, long)
as_long_after Ones (LostCut n) seen left within long = long
as_long_after Ones Synced seen left within long = refl
as_long_after Ones Lost seen left within long = long

torn_ones : (at n : ℕ) (left : List ℕ) → at ≤ length left → Torn at n left (written at (ones n) left)
torn_ones at n left within = subst (λ (k : ℕ). Torn at k left (written at (ones n) left)) (length-replicate {A = ℕ} n 1) (torn_written at (ones n) left within)

image_after : (pick : Pick) (change : Change) (seen left : List ℕ) (before : List ℕ → Type 0) → IsWithin change seen → IsAsLong pick left seen → before left → images_after change seen before (left_after pick change seen left)
image_after Kept (Wrote at bytes) seen left before within long was = (left, was, torn_same at (length bytes) left)
image_after Kept (LostWrite at n) seen left before within long was = (left, was, torn_same at n left)
image_after Kept (CutTo n) seen left before within long was = (left, was, inl refl)
image_after Kept (LostCut n) seen left before within long was = (left, was, inl refl)
image_after Kept Synced seen left before within long was = refl
image_after Kept Lost seen left before within long was = was
image_after Written (Wrote at bytes) seen left before within long was =
    (left, was, torn_written at bytes left (omega (arith, within, long)))
image_after Written (LostWrite at n) seen left before within long was = (left, was, torn_same at n left)
image_after Written (CutTo n) seen left before within long was = (left, was, inr refl)
image_after Written (LostCut n) seen left before within long was = (left, was, inl refl)
image_after Written Synced seen left before within long was = refl
image_after Written Lost seen left before within long was = was
image_after Ones (Wrote at bytes) seen left before within long was =
    (left, was, torn_ones at (length bytes) left (omega (arith, within, long)))
image_after Ones (LostWrite at n) seen left before within long was =
    (left, was, torn_wider at (min n (length left - at)) n left _ (omega arith) (torn_ones at (min n (length left - at)) left (omega (arith, within, long))))
image_after Ones (CutTo n) seen left before within long was = (left, was, inr refl)
image_after Ones (LostCut n) seen left before within long was = (left, was, inl refl)
image_after Ones Synced seen left before within long was = refl
image_after Ones Lost seen left before within long was = was

image_at_end : (pick : Pick) (changes : List Change) (seen left : List ℕ) (before : List ℕ → Type 0) → AreWithin seen changes → IsAsLong pick left seen → before left → images_at_end seen before changes (left_at_end pick seen left changes)
image_at_end pick [] seen left before within long was = was
image_at_end pick (c ∷ changes) seen left before within long was =
    image_at_end pick changes (read_after c seen) (left_after pick c seen left) (images_after c seen before) within.1 (as_long_after pick c seen left within.0 long) (image_after pick c seen left before within.0 long was)

as_long_first : (pick : Pick) (first : List ℕ) → IsAsLong pick first first
as_long_first Kept first = tt
as_long_first Written first = refl
as_long_first Ones first = refl

within_take : (t : ℕ) (seen : List ℕ) (changes : List Change) → AreWithin seen changes → AreWithin seen (take t changes)
within_take zero seen changes within = tt
within_take (suc t) seen [] within = tt
within_take (suc t) seen (c ∷ changes) within = (within.0, within_take t (read_after c seen) changes within.1)

-- what is picked at a moment is an image of that moment
pub picked_at : (pick : Pick) (first : List ℕ) (changes : List Change) (t : ℕ) → AreWithin first changes → t ≤ length changes → WasImageAt first changes t (picked pick first (take t changes))
picked_at pick first changes t within le =
    (le, image_at_end pick (take t changes) first first (λ image. image ≡ first) (within_take t first changes within) (as_long_first pick first) refl)

-- one call more
pub left_push : (pick : Pick) (seen left : List ℕ) (changes : List Change) (change : Change) → left_at_end pick seen left (changes ++ change ∷ []) ≡ left_after pick change (read_at_end seen changes) (left_at_end pick seen left changes)
left_push pick seen left [] change = refl
left_push pick seen left (c ∷ changes) change = left_push pick (read_after c seen) (left_after pick c seen left) changes change
