-- Items with commas between them, as they are spelled, are read.
use Rattle.std.proofs.Common.{◌≡◌, ℕ, zero, suc, ◌≤◌, Bool, false, List, [], ◌∷◌, ◌++◌, length, map, Some, refl, ap, sym, subst, ◌∙◌, arith, append_assoc}
use Rattle.std.specs.Prelude.{if◌then◌else◌, codes}
use Rattle.std.specs.List.{AllByRecursion}
use Rattle.sql_parse.specs.declared.token_kinds.TokenKind.{TokenKind}
use Rattle.sql_parse.specs.declared.token_kinds.TokenKind.TheVariants as k
use Rattle.sql_parse.specs.Input.{Input, Parser, ◌>>=◌, pure, eat, kind, sees, separated_from, separated}
use Rattle.sql_parse.specs.Spelling.{Front, spell, commas}
use Rattle.sql_parse.proofs.Pieces.{Bare, kind_of_word, eats_word, eats_none}
use Rattle.sql_parse.proofs.Fixed.{comma_token}
use Rattle.sql_parse.proofs.Grouping.{bind}
use Rattle.sql_parse.proofs.Fronts.{IsFront, AreFronts, length_word, front_commas}

module _ {A : Type 0} (item : Parser A) (text : A → Front) (Ends : TokenKind → Type 0) (at_comma : Ends k.Comma) where
  -- An item, as it is spelled, is read, where such a token stands behind it.
  pub record IsItem (x : A) : Type 0 where
    pub front : IsFront (text x)
    pub read : (z : Input) → Bare z → Ends (kind z) → item (text x z) ≡ Some (x, z)

  pub item_fronts : (xs : List A) → AllByRecursion IsItem xs → AreFronts (map text xs)
  item_fronts [] each = tt
  item_fronts (x ∷ xs) each = (each.0.front, item_fronts xs each.1)

  pub series_front : (x : A) (xs : List A) → AllByRecursion IsItem (x ∷ xs) → IsFront (commas (map text (x ∷ xs)))
  series_front x xs each = front_commas (text x) (map text xs) (item_fronts (x ∷ xs) each)

  chosen : ℕ → List A → A → Bool → Parser (List A)
  chosen m found x b = if b then separated_from item m (found ++ x ∷ []) else pure (found ++ x ∷ [])

  series_from : (x : A) (xs : List A) → AllByRecursion IsItem (x ∷ xs) → (z : Input) → Bare z → Ends (kind z) → sees k.Comma z ≡ false → (m : ℕ) (found : List A) → length (commas (map text (x ∷ xs)) z) ≤ m
      → separated_from item m found (commas (map text (x ∷ xs)) z) ≡ Some (found ++ x ∷ xs, z)
  unfolding separated_from chosen
  series_from x [] each z bare is none zero found le = absurd (omega (arith, le, each.0.front.longer z))
  series_from x [] each z bare is none (suc m) found le =
      bind (λ x. eat k.Comma >>= chosen m found x) (each.0.read z bare is)
      (bind (chosen m found x) {o = eat k.Comma z} (eats_none k.Comma z none) refl)
  series_from x (y ∷ ys) each z bare is none zero found le = absurd (omega (arith, le, each.0.front.longer (spell "," (commas (map text (y ∷ ys)) z))))
  series_from x (y ∷ ys) each z bare is none (suc m) found le =
      let rest = commas (map text (y ∷ ys)) z in
      let i = spell "," rest in
      let bare_rest : Bare rest = (series_front y ys each.1).bare z bare in
      bind (λ x. eat k.Comma >>= chosen m found x) (each.0.read i (comma_token.bare rest) (subst Ends (sym (kind_of_word k.Comma (codes ",") comma_token rest)) at_comma))
      (bind (chosen m found x) {o = eat k.Comma i} (eats_word k.Comma (codes ",") comma_token rest bare_rest)
      (series_from y ys each.1 z bare is none m (found ++ x ∷ []) (omega (arith, le, each.0.front.longer i, length_word (codes ",") rest))
      ∙ ap (λ (zs : List A). Some (zs, z)) (append_assoc found (x ∷ []) (y ∷ ys))))

  pub series_read : (x : A) (xs : List A) → AllByRecursion IsItem (x ∷ xs) → (z : Input) → Bare z → Ends (kind z) → sees k.Comma z ≡ false → separated item (commas (map text (x ∷ xs)) z) ≡ Some (x ∷ xs, z)
  series_read x xs each z bare is none = series_from x xs each z bare is none (length (commas (map text (x ∷ xs)) z)) [] (omega arith)

  -- The same of a list that has an item.
  pub all_read : (xs : List A) → 1 ≤ length xs → AllByRecursion IsItem xs → (z : Input) → Bare z → Ends (kind z) → sees k.Comma z ≡ false → separated item (commas (map text xs) z) ≡ Some (xs, z)
  all_read [] some each z bare is none = absurd (omega (arith, some))
  all_read (x ∷ xs) some each z bare is none = series_read x xs each z bare is none

  pub all_front : (xs : List A) → 1 ≤ length xs → AllByRecursion IsItem xs → IsFront (commas (map text xs))
  all_front [] some each = absurd (omega (arith, some))
  all_front (x ∷ xs) some each = series_front x xs each
