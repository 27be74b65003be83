-- One value of a list after another.
use Rattle.std.proofs.Common.{◌≡◌, ℕ, Bool, true, false, cond, List, ◌∷◌, ◌++◌, map, set, sym, ap, ◌∙◌}
use Rattle.row_types.specs.declared.values.Value.{Value}
use Rattle.table_rows.specs.Entries.{Entry}
use Rattle.request_types.specs.declared.finds.FindSpec.{FindSpec}
use Rattle.table_rows.specs.Rows.{State}
use Rattle.find_scan.specs.Select.{matching, found}
use Rattle.find_scan.specs.Gathering.{Gathered, gives, fresh}

module _ (state : State) (spec : FindSpec) (part : ℕ) where
  -- the rows of the keys with these values
  abbrev pub rows_with : List Value → List Entry
  rows_with values = found state spec (map (λ v. set spec.key part v) values)

  module _ (was now later : List Value) (v : Value) (is_new : Bool) (stepped : fresh was (v ∷ later) ≡ cond is_new (v ∷ fresh now later) (fresh now later)) where
    -- after a new value's walk, those of the others give the rest
    pub new_value : (before after : Gathered) (key : List Value) → is_new ≡ true → key ≡ set spec.key part v
        → ((more : List Entry) → gives spec.filters after more ≡ gives spec.filters before (matching state spec key ++ more))
        → gives spec.filters after (rows_with (fresh now later)) ≡ gives spec.filters before (rows_with (fresh was (v ∷ later)))
    new_value before after key new is scanned =
        scanned (rows_with (fresh now later))
        ∙ ap (λ (k : List Value). gives spec.filters before (matching state spec k ++ rows_with (fresh now later))) is
        ∙ sym (ap (λ (vs : List Value). gives spec.filters before (rows_with vs)) (stepped ∙ ap (λ (b : Bool). cond b (v ∷ fresh now later) (fresh now later)) new))

    -- a repeat gives nothing
    pub old_value : (before : Gathered) → is_new ≡ false
        → gives spec.filters before (rows_with (fresh now later)) ≡ gives spec.filters before (rows_with (fresh was (v ∷ later)))
    old_value before old =
        sym (ap (λ (vs : List Value). gives spec.filters before (rows_with vs)) (stepped ∙ ap (λ (b : Bool). cond b (v ∷ fresh now later) (fresh now later)) old))
