-- Texts of which a front was sent.
use Rattle.std.proofs.Common.{◌≡◌, ℕ, ◌+◌, ◌-◌, ◌^◌, ◌<◌, ◌≤◌, Bool, true, false, List, [], ◌∷◌, ◌++◌, length, drop, get_or, refl, sym, ap, ◌∙◌, arith, length-append}
use Rattle.std.specs.List.{concat, AllByRecursion}
use Rattle.std.proofs.Math.Seq.{drop-append-add}
use Rattle.std.proofs.lemmas.List.{append-nil, drop-append-le}
use Rattle.std.proofs.lemmas.List.Folds.{concat-append}
use Rattle.std.proofs.lemmas.Bool.{both_ways}
use Rattle.line_pipeline.specs.Output.{IsText, IsWithinFirst, IsOutput}

-- so far some of the bytes were taken off: `left` of them are to go from `at` on
pub record IsTaking (texts old : List (List ℕ)) (at left sent count : ℕ) : Type 0 where
  pub each : AllByRecursion IsText texts
  pub within : IsWithinFirst texts at
  pub bytes : drop (at + left) (concat texts) ≡ drop (sent + count) (concat old)
  pub counted : length (concat texts) + sent + count ≡ length (concat old) + at + left
  pub there : at + left ≤ length (concat texts)

from_front : (texts : List (List ℕ)) → AllByRecursion IsText texts → IsWithinFirst texts 0
from_front [] each = refl
from_front (text ∷ texts) each = each.0

zero_more : (n : ℕ) → 0 + n ≡ n
zero_more n = omega arith

-- the first text is gone
pub taking-on : (text : List ℕ) (texts old : List (List ℕ)) (at left sent count : ℕ) → IsTaking (text ∷ texts) old at left sent count → length text - at ≤ left → IsTaking texts old 0 (left - (length text - at)) sent count
taking-on text texts old at left sent count so_far enough =
    let more : ℕ = left - (length text - at) in
    let within : at < length text = so_far.within in
    let on : at + left ≡ length text + more = omega arith in
    let size : length (text ++ concat texts) ≡ length text + length (concat texts) = length-append text (concat texts) in
    let counted : length (text ++ concat texts) + sent + count ≡ length (concat old) + at + left = so_far.counted in
    let there : at + left ≤ length (text ++ concat texts) = so_far.there in
    record {
      each = so_far.each.1;
      within = from_front texts so_far.each.1;
      bytes = ap (λ (n : ℕ). drop n (concat texts)) (zero_more more) ∙ sym (drop-append-add text (concat texts) more) ∙ ap (λ (n : ℕ). drop n (text ++ concat texts)) (sym on) ∙ so_far.bytes;
      counted = omega arith;
      there = omega arith;
    }

-- a list by its first item
pub by_first : (texts : List (List ℕ)) (text : List ℕ) → 0 < length texts → text ≡ get_or texts 0 text → texts ≡ text ∷ drop 1 texts
by_first [] text some is = absurd (omega arith)
by_first (first ∷ texts) text some is = ap (λ (t : List ℕ). t ∷ texts) (sym is)

-- one more text behind the others
each-push : (texts : List (List ℕ)) (text : List ℕ) → AllByRecursion IsText texts → 0 < length text → AllByRecursion IsText (texts ++ text ∷ [])
each-push [] text each some = (some, tt)
each-push (first ∷ texts) text each some = (each.0, each-push texts text each.1 some)

within-push : (texts : List (List ℕ)) (text : List ℕ) (sent : ℕ) → IsWithinFirst texts sent → 0 < length text → IsWithinFirst (texts ++ text ∷ []) sent
within-push [] text sent within some = omega (arith, within, some)
within-push (first ∷ texts) text sent within some = within

concat-push : (texts : List (List ℕ)) (text : List ℕ) → concat (texts ++ text ∷ []) ≡ concat texts ++ text
concat-push texts text = concat-append texts (text ∷ []) ∙ ap (λ (t : List ℕ). concat texts ++ t) (append-nil text)

pub unsent-push : (texts : List (List ℕ)) (text : List ℕ) (sent len : ℕ) → len + sent ≡ length (concat texts) → drop sent (concat (texts ++ text ∷ [])) ≡ drop sent (concat texts) ++ text
unsent-push texts text sent len counted =
    ap (drop sent) (concat-push texts text) ∙ drop-append-le sent (concat texts) text (omega arith)

pub output-push : (texts : List (List ℕ)) (text : List ℕ) (sent len capacity most : ℕ) (is_reserved : Bool) → IsOutput texts sent len is_reserved capacity most → is_reserved ≡ true → 0 < length text → length text < 2 ^ 63 → IsOutput (texts ++ text ∷ []) sent (len + length text) false capacity most
output-push texts text sent len capacity most is_reserved old reserved some small =
    let size : length (concat (texts ++ text ∷ [])) ≡ length (concat texts) + length text = ap length (concat-push texts text) ∙ length-append (concat texts) text in
    let counted : len + sent ≡ length (concat texts) = old.counted in
    let few : len ≤ most = (old.place reserved).1 in
    record {
      each = each-push texts text old.each some;
      within = within-push texts text sent old.within some;
      counted = omega arith;
      place = λ no_place. absurd (both_ways false refl no_place);
      bound = omega arith;
    }

-- some texts are gone
pub output-sent : (texts old : List (List ℕ)) (at len sent count capacity most : ℕ) (is_reserved : Bool) → IsOutput old sent len is_reserved capacity most → count ≤ len → AllByRecursion IsText texts → IsWithinFirst texts at → length (concat texts) + sent + count ≡ length (concat old) + at → length texts ≤ length old → IsOutput texts at (len - count) is_reserved capacity most
output-sent texts old at len sent count capacity most is_reserved was some each within counted fewer =
    let before : len + sent ≡ length (concat old) = was.counted in
    let bound : len < 2 ^ 63 + most = was.bound in
    record {
      each = each;
      within = within;
      counted = omega arith;
      place = λ reserved. let p = was.place reserved in (omega (arith, p.0), omega (arith, p.1));
      bound = omega arith;
    }
