-- How a history that images show goes on.
use Rattle.std.proofs.Common.{◌≡◌, inl, inr, ℕ, ◌<◌, ◌≤◌, List, sym, subst, arith}
use Rattle.std.specs.Prelude.{if◌then◌else◌, nat_lt}
use Rattle.std.proofs.lemmas.Bool.{cases_lt}
use Rattle.std.proofs.lemmas.Bool.Decides.{nat_tests}
use Rattle.hs_disk.specs.Disk.{LeavesOnly}
use Rattle.hs_disk.specs.Grows.{Grows}

abbrev pub chosen : ℕ → ℕ → ℕ → ℕ → ℕ
chosen t m x y = if nat_lt t m then x else y

is_first : (t m x y : ℕ) → t < m → chosen t m x y ≡ x
is_first t m x y lt = grind (arith, nat_tests)

is_second : (t m x y : ℕ) → m ≤ t → chosen t m x y ≡ y
is_second t m x y le = grind (arith, nat_tests)

module _ {D : Type 0} (moment : D → ℕ) (left_at : D → ℕ → List ℕ → Type 0) (Shows : ℕ → List ℕ → Type 0) where
  pub grows_on : (old mid new : D) (a b c : ℕ) → Grows moment left_at old mid Shows a b → Grows moment left_at mid new Shows b c → Grows moment left_at old new Shows a c
  grows_on old mid new a b c g h = record {
    later = omega (arith, g.later, h.later);
    upto = upto;
    begins = λ t from to. elim (cases_lt t (moment mid)) [
      | inl lt ↦ omega (arith, is_first t (moment mid) (g.upto t) (h.upto t) lt, g.begins t from (omega (arith, lt)))
      | inr le ↦ omega (arith, is_second t (moment mid) (g.upto t) (h.upto t) le, h.begins t le to, g.most)
    ];
    most = omega (arith, g.most, h.most);
    ends = λ t from to. elim (cases_lt t (moment mid)) [
      | inl lt ↦ omega (arith, is_first t (moment mid) (g.upto t) (h.upto t) lt, g.ends t from (omega (arith, lt)), h.most)
      | inr le ↦ omega (arith, is_second t (moment mid) (g.upto t) (h.upto t) le, h.ends t le to)
    ];
    rises = λ s t from le to. elim (cases_lt t (moment mid)) [
      | inl lt ↦ omega (arith, is_first t (moment mid) (g.upto t) (h.upto t) lt, is_first s (moment mid) (g.upto s) (h.upto s) (omega (arith, le, lt)), g.rises s t from le (omega (arith, lt)))
      | inr past ↦ elim (cases_lt s (moment mid)) [
        | inl before ↦ omega (arith, is_second t (moment mid) (g.upto t) (h.upto t) past, is_first s (moment mid) (g.upto s) (h.upto s) before, g.ends s from (omega (arith, before)), h.begins t past to)
        | inr after ↦ omega (arith, is_second t (moment mid) (g.upto t) (h.upto t) past, is_second s (moment mid) (g.upto s) (h.upto s) after, h.rises s t after le to)
      ]
    ];
    each = λ t image from to left. elim (cases_lt t (moment mid)) [
      | inl lt ↦ subst (λ (n : ℕ). Shows n image) (sym (is_first t (moment mid) (g.upto t) (h.upto t) lt)) (g.each t image from (omega (arith, lt)) (h.before t image (omega (arith, lt)) left))
      | inr le ↦ subst (λ (n : ℕ). Shows n image) (sym (is_second t (moment mid) (g.upto t) (h.upto t) le)) (h.each t image le to left)
    ];
    before = λ t image le left. g.before t image le (h.before t image (omega (arith, le, g.later)) left);
  }
    where
      upto : ℕ → ℕ
      upto t = chosen t (moment mid) (g.upto t) (h.upto t)

  -- one call that adds one entry at most: at each moment the first n entries with or without one more, and in the end the first m
  pub grows_once : (old new : D) (n m : ℕ) → n ≤ m → LeavesOnly moment left_at old new (Shows n) → ((image : List ℕ) → left_at new (moment new) image → Shows m image) → Grows moment left_at old new Shows n m
  grows_once old new n m le run now = record {
    later = run.later;
    upto = λ t. chosen t (moment new) n m;
    begins = λ t from to. elim (cases_lt t (moment new)) [
      | inl lt ↦ omega (arith, is_first t (moment new) n m lt)
      | inr past ↦ omega (arith, is_second t (moment new) n m past, le)
    ];
    most = le;
    ends = λ t from to. elim (cases_lt t (moment new)) [
      | inl lt ↦ omega (arith, is_first t (moment new) n m lt, le)
      | inr past ↦ omega (arith, is_second t (moment new) n m past)
    ];
    rises = λ s t from upto to. elim (cases_lt t (moment new)) [
      | inl lt ↦ omega (arith, is_first t (moment new) n m lt, is_first s (moment new) n m (omega (arith, upto, lt)))
      | inr past ↦ elim (cases_lt s (moment new)) [
        | inl before ↦ omega (arith, is_second t (moment new) n m past, is_first s (moment new) n m before, le)
        | inr after ↦ omega (arith, is_second t (moment new) n m past, is_second s (moment new) n m after)
      ]
    ];
    each = λ t image from to left. elim (cases_lt t (moment new)) [
      | inl lt ↦ subst (λ (k : ℕ). Shows k image) (sym (is_first t (moment new) n m lt)) (run.each t image from to left)
      | inr past ↦ subst (λ (k : ℕ). Shows k image) (sym (is_second t (moment new) n m past)) (now image (subst (λ (s : ℕ). left_at new s image) (omega (arith, past, to)) left))
    ];
    before = run.before;
  }
