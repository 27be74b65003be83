-- A history that images show, and that never gets shorter.
use Rattle.std.specs.Prelude.{ℕ, ◌≤◌, List}

-- From the old state to the new one, a crash at each moment leaves an image that shows so many
-- entries of a history, and that number never falls from one moment to a later one. It is no less
-- than the first number, and no more than the last.
pub record Grows {D : Type 0} (moment : D → ℕ) (left_at : D → ℕ → List ℕ → Type 0)
    (old new : D) (Shows : ℕ → List ℕ → Type 0) (first last : ℕ) : Type 0 where
  pub later : moment old ≤ moment new
  pub most : first ≤ last
  pub upto : ℕ → ℕ
  pub begins : (t : ℕ) → moment old ≤ t → t ≤ moment new → first ≤ upto t
  pub ends : (t : ℕ) → moment old ≤ t → t ≤ moment new → upto t ≤ last
  pub rises : (s t : ℕ) → moment old ≤ s → s ≤ t → t ≤ moment new → upto s ≤ upto t
  pub each : (t : ℕ) (image : List ℕ) → moment old ≤ t → t ≤ moment new
      → left_at new t image → Shows (upto t) image
  pub before : (t : ℕ) (image : List ℕ) → t ≤ moment old → left_at new t image → left_at old t image
