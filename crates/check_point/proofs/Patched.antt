-- A number written over four bytes.
--     patched      in front of what was appended since
use Rattle.std.proofs.Common.{◌≡◌, ℕ, ◌+◌, List, [], ◌∷◌, ◌++◌, length, take, drop, refl, ap, ap₂, ◌∙◌, append_assoc, arith, length-append}
use Rattle.std.specs.Int.{w32, to_be_bytes}
use Rattle.std.proofs.lemmas.List.{take_at, drop_at}

front_kept : (front zeros area : List ℕ) → take (length front) ((front ++ zeros) ++ area) ≡ front
front_kept front zeros area = ap (take (length front)) (append_assoc front zeros area) ∙ take_at front (zeros ++ area) (length front) refl

rest_kept : (front zeros area : List ℕ) → length zeros ≡ 4 → drop (length front + 4) ((front ++ zeros) ++ area) ≡ area
rest_kept front zeros area four = drop_at (front ++ zeros) area (length front + 4) (omega (arith, length-append front zeros, four))

module _ (old number zeros area : List ℕ) (first second third fourth last : List ℕ) (place len : ℕ) where
  pub patched : first ≡ old ++ number → place ≡ length first → second ≡ first ++ zeros → length zeros ≡ 4 → third ≡ second ++ area → len ≡ length area → fourth ≡ take place third ++ to_be_bytes w32 len ++ drop (place + 4) third → last ≡ fourth ++ 0 ∷ [] → last ≡ old ++ (number ++ to_be_bytes w32 (length area) ++ area ++ 0 ∷ [])
  patched one at two four three long patch closed =
      let all : third ≡ (first ++ zeros) ++ area = three ∙ ap (λ (bytes : List ℕ). bytes ++ area) two in
      let front : take place third ≡ first = ap₂ take at all ∙ front_kept first zeros area in
      let back : drop (place + 4) third ≡ area = ap₂ (λ (n : ℕ) (bytes : List ℕ). drop (n + 4) bytes) at all ∙ rest_kept first zeros area four in
      let size : List ℕ = to_be_bytes w32 (length area) in
      let four_is : fourth ≡ first ++ size ++ area = patch ∙ ap₂ (λ (a b : List ℕ). a ++ to_be_bytes w32 len ++ b) front back ∙ ap (λ (n : ℕ). first ++ to_be_bytes w32 n ++ area) long in
      closed ∙ ap (λ (bytes : List ℕ). bytes ++ 0 ∷ []) (four_is ∙ ap (λ (bytes : List ℕ). bytes ++ size ++ area) one)
      ∙ ap (λ (bytes : List ℕ). bytes ++ area ++ 0 ∷ []) (append_assoc old number size)
      ∙ ap (λ (bytes : List ℕ). bytes ++ 0 ∷ []) (append_assoc old (number ++ size) area)
      ∙ append_assoc old (number ++ size ++ area) (0 ∷ [])
