-- What contracts see of a connection's output.
use Rattle.std.specs.Prelude.{◌≡◌, ℕ, ◌+◌, ◌<◌, ◌≤◌, ◌^◌, Bool, true, List, [], ◌∷◌, ◌++◌, length}
use Rattle.std.specs.List.{concat, AllByRecursion}

-- The bytes that were not sent yet, and whether there is a place for one more text.
pub record Unsent : Type 0 where
  pub bytes : List ℕ
  pub has_place : Bool

-- These bytes are the first of the others.
pub record IsFront (bytes all : List ℕ) : Type 0 where
  pub rest : List ℕ
  pub parts : all ≡ bytes ++ rest

-- a text that waits has at least one byte
abbrev pub IsText : List ℕ → Type 0
IsText text = 0 < length text

-- fewer bytes than this were sent of the first text, and none where there is no text
abbrev pub IsWithinFirst : List (List ℕ) → ℕ → Type 0
IsWithinFirst [] sent = sent ≡ 0
IsWithinFirst (text ∷ texts) sent = sent < length text

-- what an output keeps: its texts, how many bytes of the first were sent, how many bytes wait, and whether a place is reserved
pub record IsOutput (texts : List (List ℕ)) (sent len : ℕ) (has_place : Bool) (capacity most : ℕ) : Type 0 where
  pub each : AllByRecursion IsText texts
  pub within : IsWithinFirst texts sent
  pub counted : len + sent ≡ length (concat texts)
  pub place : has_place ≡ true → (length texts < capacity) × (len ≤ most)
  pub bound : len < 2 ^ 63 + most
