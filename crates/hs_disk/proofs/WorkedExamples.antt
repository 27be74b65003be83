-- Worked examples of what a write and a cut leave.
use Rattle.std.proofs.Common.{◌≡◌, inl, ℕ, List, [], ◌∷◌, refl, arith, ap}
use Rattle.hs_disk.specs.Disk.{written, Torn}
use Rattle.hs_disk.specs.Images.{IsImage}
use Rattle.hs_disk.specs.declared.change.Change.TheVariants.{CutTo, Wrote, Synced}

pub past_the_end : written 1 (8 ∷ 9 ∷ []) (1 ∷ 2 ∷ []) ≡ 1 ∷ 8 ∷ 9 ∷ []
past_the_end = refl

pub torn_anyhow : Torn 1 2 (1 ∷ 2 ∷ []) (1 ∷ 7 ∷ 7 ∷ [])
torn_anyhow = record { before = refl; after = refl; no_shorter = omega arith; no_longer = omega arith }

pub torn_short : Torn 1 2 (1 ∷ 2 ∷ []) (1 ∷ 8 ∷ [])
torn_short = record { before = refl; after = refl; no_shorter = omega arith; no_longer = omega arith }

pub never_shorter : Torn 1 2 (1 ∷ 2 ∷ []) (1 ∷ []) → ⊥
never_shorter torn = omega (arith, torn.no_shorter)

pub never_before : Torn 1 2 (1 ∷ 2 ∷ []) (7 ∷ 8 ∷ 9 ∷ []) → ⊥
never_before torn = omega (arith, ap first torn.before)
  where
    first : List ℕ → ℕ
    first [] = 0
    first (byte ∷ bytes) = byte

pub cut_undone : IsImage (1 ∷ 2 ∷ []) (CutTo 1 ∷ []) (1 ∷ 2 ∷ [])
cut_undone = (1 ∷ 2 ∷ [], refl, inl refl)

pub cut_synced : (image : List ℕ) → IsImage (1 ∷ 2 ∷ []) (CutTo 1 ∷ Synced ∷ []) image → image ≡ 1 ∷ []
cut_synced image is = is

pub write_synced : (image : List ℕ) → IsImage [] (Wrote 0 (5 ∷ []) ∷ Synced ∷ []) image → image ≡ 5 ∷ []
write_synced image is = is
