-- Cases of a choice, and of a byte.
use Rattle.std.proofs.Common.{◌≡◌, ℕ, ◌+◌, ◌<◌, ◌≤◌, Bool, true, false, cond, eqb, leb, ltb, [], ◌∷◌, refl, arith, inl, inr, ◌⊎◌}
use Rattle.std.proofs.lemmas.Bool.{le-leb, lt-leb, ne_eqb, le-ltb, cond-false}
use Rattle.hs_token.specs.Spelling.{byte_spelled}
use Rattle.hs_token.specs.Reading.{is_bad}

-- which of two was chosen
pub chosen : {A : Type 0} (b : Bool) (x y z : A) → cond b x y ≡ z → ((b ≡ true) × (x ≡ z)) ⊎ ((b ≡ false) × (y ≡ z))
chosen true x y z e = inl (refl, e)
chosen false x y z e = inr (refl, e)

pub plain : (b : ℕ) → 16 ≤ b → byte_spelled b ≡ b ∷ []
plain b le = let high : leb 16 b ≡ true = le-leb 16 b le in rw high refl

pub escaped : (b : ℕ) → b < 16 → byte_spelled b ≡ 1 ∷ (b + 64) ∷ []
escaped b lt = cond-false (leb 16 b) (b ∷ []) (1 ∷ (b + 64) ∷ []) (lt-leb 16 b lt)

-- a byte that stands for itself is never bad
pub plain_is_good : (before b after : ℕ) → 16 ≤ b → is_bad before b after ≡ false
plain_is_good before b after le =
    let one : eqb b 1 ≡ false = ne_eqb b 1 (λ e. omega arith) in
    let null : eqb b 0 ≡ false = ne_eqb b 0 (λ e. omega arith) in
    let low : ltb b 16 ≡ false = le-ltb b 16 le in
    rw (one, null, low) refl
