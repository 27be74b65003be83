-- What calls of a file do to the bytes that it holds, where it tells them.
use Rattle.std.specs.Prelude.{◌≡◌, ℕ, ◌-◌, ◌<◌, ◌≤◌, min, List, length, take, drop, Option, Some}
use Rattle.hs_disk.specs.Disk.{written}

-- A read from a place on put n bytes to the front of the buffer, none only at the end.
pub record Reads (at n : ℕ) (held buf : List ℕ) : Type 0 where
  pub bytes : take n buf ≡ take n (drop at held)
  pub none : n ≡ 0 → 0 < length buf → length held ≤ at

-- A read from a place on filled the buffer, except at the end: it put n bytes there.
pub record ReadsAll (at n : ℕ) (held buf : List ℕ) : Type 0 where
  pub full : n ≡ min (length buf) (length held - at)
  pub bytes : take n buf ≡ take n (drop at held)

-- these bytes were written at a place within the old ones
abbrev pub Puts : ℕ → List ℕ → Option (List ℕ) → Option (List ℕ) → Type 0
Puts at bytes old new = (held : List ℕ) → old ≡ Some held → at ≤ length held
    → new ≡ Some (written at bytes held)

-- only so many of the old bytes are left
abbrev pub Cuts : ℕ → Option (List ℕ) → Option (List ℕ) → Type 0
Cuts len old new = (held : List ℕ) → old ≡ Some held → new ≡ Some (take len held)

-- the bytes before this place are as they were
abbrev pub KeepsFront : ℕ → Option (List ℕ) → Option (List ℕ) → Type 0
KeepsFront at old new = (held : List ℕ) → old ≡ Some held → at ≤ length held
    → (now : List ℕ) × (new ≡ Some now) × (take at now ≡ take at held) × (at ≤ length now)
