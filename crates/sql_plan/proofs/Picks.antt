-- Rows that are picked from the front of a walk.
--     front_on, front_ends      the front, row by row
--     pick_met, pick_other, pick_overflow      one row more
use Rattle.std.proofs.Common.{◌≡◌, ℕ, ◌+◌, ◌≤◌, arith, Bool, true, false, cond, List, [], ◌∷◌, ◌++◌, length, filter, Option, Some, None, refl, sym, ap, subst, ◌∙◌, append_assoc}
use Rattle.std.specs.List.{list_any, take_while}
use Rattle.std.proofs.lemmas.Option.{none-some, same_Some}
use Rattle.std.proofs.lemmas.List.Sums.{take_while-cons}
use Rattle.table_rows.specs.Entries.{Entry}
use Rattle.sql_value.specs.declared.exprs.Expr.{Expr}
use Rattle.sql_value.specs.declared.truths.Truth.TheVariants.{Yes, No, Unknown}
use Rattle.sql_value.specs.declared.worth.Evaluated.{Evaluated}
use Rattle.sql_value.specs.declared.worth.Evaluated.TheVariants.{Truth, Value, Overflow}
use Rattle.sql_plan.specs.Ranges.{is_true, is_overflow, worth_on, met_at, is_met, overflows, met_by}
use Rattle.sql_plan.specs.Looking.{one_more}

module _ {X : Type 0} (test : X → Bool) where
  pub front_on : (x : X) (xs : List X) → test x ≡ true → take_while test (x ∷ xs) ≡ x ∷ take_while test xs
  front_on x xs passes = take_while-cons test x xs ∙ ap (λ (b : Bool). cond b (x ∷ take_while test xs) []) passes

  pub front_ends : (x : X) (xs : List X) → test x ≡ false → take_while test (x ∷ xs) ≡ []
  front_ends x xs fails = take_while-cons test x xs ∙ ap (λ (b : Bool). cond b (x ∷ take_while test xs) []) fails

module _ (condition : Option Expr) (all : List Entry) where
  -- Of all rows these were picked, these are left, and no other overflowed.
  pub record ArePicked (picked rest : List Entry) : Type 0 where
    pub met_is : filter (is_met condition) all ≡ picked ++ filter (is_met condition) rest
    pub over_is : list_any (overflows condition) all ≡ list_any (overflows condition) rest

  pub pick_met : (picked rest : List Entry) (e : Entry) → ArePicked picked (e ∷ rest) → overflows condition e ≡ false → is_met condition e ≡ true → ArePicked (picked ++ e ∷ []) rest
  pick_met picked rest e was fine met = record {
    met_is = was.met_is ∙ (rw met refl) ∙ sym (append_assoc picked (e ∷ []) (filter (is_met condition) rest));
    over_is = was.over_is ∙ (rw fine refl);
  }

  pub pick_other : (picked rest : List Entry) (e : Entry) → ArePicked picked (e ∷ rest) → overflows condition e ≡ false → is_met condition e ≡ false → ArePicked picked rest
  pick_other picked rest e was fine other = record {
    met_is = was.met_is ∙ (rw other refl);
    over_is = was.over_is ∙ (rw fine refl);
  }

  pub pick_overflow : (picked rest : List Entry) (e : Entry) → ArePicked picked (e ∷ rest) → overflows condition e ≡ true → None ≡ met_by condition all
  pick_overflow picked rest e was over = let any : list_any (overflows condition) all ≡ true = was.over_is ∙ (rw over refl) in rw any refl

-- what is said of a row's worth
pub fine_there : (condition : Option Expr) (e : Entry) (b : Bool) → Some b ≡ met_at (worth_on condition e) → (overflows condition e ≡ false) × (is_met condition e ≡ b)
fine_there condition e b said = by_worth (worth_on condition e) said
  where
    by_worth : (w : Evaluated) → Some b ≡ met_at w → (is_overflow w ≡ false) × (is_true w ≡ b)
    by_worth (Truth Yes) is = (refl, same_Some true b (sym is))
    by_worth (Truth No) is = (refl, same_Some false b (sym is))
    by_worth (Truth Unknown) is = (refl, same_Some false b (sym is))
    by_worth (Value v) is = (refl, same_Some false b (sym is))
    by_worth Overflow is = absurd (none-some b (sym is))

pub over_there : (condition : Option Expr) (e : Entry) → None ≡ met_at (worth_on condition e) → overflows condition e ≡ true
over_there condition e said = by_worth (worth_on condition e) said
  where
    by_worth : (w : Evaluated) → None ≡ met_at w → is_overflow w ≡ true
    by_worth (Truth t) is = absurd (none-some (is_true (Truth t)) is)
    by_worth (Value v) is = absurd (none-some false is)
    by_worth Overflow is = refl

module _ (condition : Option Expr) (all : List Entry) (test : Entry → Bool) (walk left : List Entry) (e : Entry) (next : walk ≡ e ∷ left) (stays : test e ≡ true) where
  front_is : take_while test walk ≡ e ∷ take_while test left
  front_is = ap (take_while test) next ∙ front_on test e left stays

  -- one row more, of which this is said
  pub picks_more : (picked : List Entry) → ArePicked condition all picked (take_while test walk) → Some true ≡ met_at (worth_on condition e) → ArePicked condition all (picked ++ e ∷ []) (take_while test left)
  picks_more picked was said = let at = fine_there condition e true said in
      pick_met condition all picked (take_while test left) e (subst (ArePicked condition all picked) front_is was) at.0 at.1

  pub picks_same : (picked : List Entry) → ArePicked condition all picked (take_while test walk) → Some false ≡ met_at (worth_on condition e) → ArePicked condition all picked (take_while test left)
  picks_same picked was said = let at = fine_there condition e false said in
      pick_other condition all picked (take_while test left) e (subst (ArePicked condition all picked) front_is was) at.0 at.1

  pub picks_none : (picked : List Entry) → ArePicked condition all picked (take_while test walk) → None ≡ met_at (worth_on condition e) → None ≡ met_by condition all
  picks_none picked was said = pick_overflow condition all picked (take_while test left) e (subst (ArePicked condition all picked) front_is was) (over_there condition e said)

  -- and one step more
  pub looked_more : (looked now begun whole : ℕ) → looked + length (take_while test walk) ≤ begun + whole → now ≡ one_more looked → now + length (take_while test left) ≤ begun + whole
  looked_more looked now begun whole was is = omega (arith, was, is, ap length front_is)
