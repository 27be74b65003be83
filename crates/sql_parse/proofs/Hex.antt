-- Digits two by two.
use Rattle.std.proofs.Common.{◌≡◌, ℕ, ◌+◌, ◌*◌, ◌-◌, ◌<◌, ◌≤◌, List, [], ◌∷◌, length, drop, get_or, refl, ap, sym, subst, ◌∙◌, arith, drop-cons, add-one}
use Rattle.std.proofs.lemmas.List.{length-drop}
use Rattle.sql_parse.specs.Strings.{digit, unhexed}

-- Two digits are a byte, and what is left stands for the bytes behind it.
pub next_pair : (d : List ℕ) (i : ℕ) → 2 * i + 1 < length d → unhexed (drop (2 * i) d) ≡ (digit (get_or d (2 * i) 0) * 16 + digit (get_or d (2 * i + 1) 0)) ∷ unhexed (drop (2 * (i + 1)) d)
next_pair d i lt =
    let cell = λ (n : ℕ) (below : n < length d). subst (λ k. drop n d ≡ get_or d n 0 ∷ drop k d) (sym (add-one n)) (drop-cons d n 0 below) in
    let same : 2 * i + 1 + 1 ≡ 2 * (i + 1) = omega arith in
    ap unhexed (cell (2 * i) (omega (arith, lt)) ∙ ap (λ r. get_or d (2 * i) 0 ∷ r) (cell (2 * i + 1) lt ∙ ap (λ k. get_or d (2 * i + 1) 0 ∷ drop k d) same))

no_pair : (d : List ℕ) → length d ≤ 1 → unhexed d ≡ []
no_pair [] le = refl
no_pair (a ∷ []) le = refl
no_pair (a ∷ b ∷ z) le = absurd (omega (arith, le))

-- A digit alone stands for nothing.
pub nothing_left : (d : List ℕ) (i : ℕ) → length d < 2 * i + 2 → unhexed (drop (2 * i) d) ≡ []
nothing_left d i lt = no_pair (drop (2 * i) d) (rw (length-drop (2 * i) d) (omega (arith, lt)))
