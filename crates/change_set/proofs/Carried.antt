-- Changes that are carried out, or not, as a set applies.
--     take_item, get_item, item_fits      the change at a place
--     held_row, key_long      a row that fits its columns, and a key
--     clears_on, changing_on      one change more that made way
--     not_cleared, not_filled      a set does not apply where a change changes nothing, or something bars a row
--     carried      it applies where all is done
use Rattle.std.proofs.Common.{◌≡◌, ℕ, zero, suc, ◌+◌, ◌<◌, ◌≤◌, ◌^◌, Bool, true, false, Result, Ok, Err, List, [], ◌∷◌, ◌++◌, length, take, get_or, refl, sym, ap, subst, ◌∙◌, inl, inr, arith}
use Rattle.std.specs.Prelude.{Contains, Some, slice_get}
use Rattle.std.specs.List.{AllByRecursion, AllZip}
use Rattle.std.specs.Ordering.{is_eq}
use Rattle.std.specs.declared.alloc.AllocError.{AllocError}
use Rattle.std.proofs.lemmas.List.{take_more, length-map}
use Rattle.index_tree.specs.Ordered.{IsAscending}
use Rattle.index_tree.proofs.Elements.{all_append, all_members, contains_at}
use Rattle.row_types.specs.declared.columns.Column.{Column}
use Rattle.row_types.specs.declared.values.Value.{Value}
use Rattle.row_types.specs.declared.tables.Schema.{Schema}
use Rattle.table_rows.specs.Checks.{IsRow}
use Rattle.table_rows.specs.Database.{Database, database_of}
use Rattle.table_rows.specs.Rows.{State, columns_of, counter_of}
use Rattle.table_rows.specs.Valid.{IsValidState}
use Rattle.table_rows.proofs.States.{zip_long}
use Rattle.table_rows.proofs.Verdicts.{kind_of_fine}
use Rattle.change_set.specs.declared.change.Change.{Change}
use Rattle.change_set.specs.declared.change.Change.TheVariants.{Put, Delete, Count}
use Rattle.change_set.specs.Fitting.{no_column, columns_at, Holds, AreHeld, FitsSchema, AreChanges}
use Rattle.change_set.specs.Putting.{IsChange, Applies, IsValidDatabase, counter_put, put}
use Rattle.change_set.specs.Sets.{def_in, key_columns, change_cmp}
use Rattle.change_set.specs.Steps.{AreCleared, AreFilled, AreChanging, IsLow, CanCome, IsBarred}
use Rattle.change_set.proofs.Applied.{made_put}
use Rattle.change_set.proofs.Cleared.{before_at, cleared_then, still_changes, changed_still}
use Rattle.change_set.proofs.CounterNotes.{schema_long}
use Rattle.change_set.proofs.NetOrder.{same_place}
use Rattle.change_set.proofs.OneOrder.{exact_in}
use Rattle.change_set.proofs.PutNet.{Counts, counts}
use Rattle.change_set.proofs.SetsAgain.{change_total}
use Rattle.change_set.proofs.Stands.{can_stand, low_counter}
use Rattle.change_set.proofs.ValidAlone.{database_valid}

-- what is answered
abbrev pub answered : Result Bool AllocError → Bool
answered (Ok answer) = answer
answered (Err e) = false

pub take_item : {X : Type 0} (xs : List X) (i : ℕ) (x : X) → i < length xs → x ≡ get_or xs i x → take (i + 1) xs ≡ take i xs ++ x ∷ []
take_item xs i x within is = take_more xs i x within ∙ ap (λ z. take i xs ++ z ∷ []) (sym is)

pub get_item : {X : Type 0} (xs : List X) (i : ℕ) (x : X) → i < length xs → x ≡ get_or xs i x → slice_get xs i ≡ Some x
get_item [] i x within is = absurd (omega (arith, within))
get_item (y ∷ ys) zero x within is = ap Some (sym is)
get_item (y ∷ ys) (suc i) x within is = get_item ys i x (omega (arith, within)) is

pub held_row : (columns : List Column) (row : List Value) → AreHeld columns row → IsRow columns row
held_row [] [] held = tt
held_row [] (v ∷ vs) held = absurd held
held_row (c ∷ cs) [] held = absurd held
held_row (c ∷ cs) (v ∷ vs) held = (kind_of_fine c v held.0.fits, held_row cs vs held.1)

pub key_long : (schema : Schema) (table : ℕ) (key : List Value) → AreHeld (columns_at (def_in schema table).columns (key_columns schema table)) key → length key ≡ length (key_columns schema table)
key_long schema table key held =
    sym (zip_long Holds (columns_at (def_in schema table).columns (key_columns schema table)) key held) ∙ length-map (key_columns schema table) (λ (place : ℕ). get_or (def_in schema table).columns place no_column)

pub item_fits : (schema : Schema) (changes : List Change) → AreChanges schema changes → (i : ℕ) (c : Change) → i < length changes → c ≡ get_or changes i c → FitsSchema schema c
item_fits schema changes fits i c within is = all_members (FitsSchema schema) changes c fits.each (contains_at changes i c (get_item changes i c within is))

module _ (s0 : State) (valid : IsValidState s0) (changes : List Change) (fits : AreChanges s0.schema changes) where
  module _ (s1 : State) (i : ℕ) (c : Change) (within : i < length changes) (is : c ≡ get_or changes i c) (cleared : AreCleared (take i changes) s0 s1) where
    here : slice_get changes i ≡ Some c
    here = get_item changes i c within is

    inside : Contains changes c
    inside = contains_at changes i c here

    pub clears_on : (s2 : State) → AreCleared (c ∷ []) s1 s2 → AreCleared (take (i + 1) changes) s0 s2
    clears_on s2 one = subst (λ (cs : List Change). AreCleared cs s0 s2) (sym (take_item changes i c within is)) (cleared_then (take i changes) c s0 s1 s2 (before_at s0.schema changes i c fits.ascending here) cleared one)

    pub changing_on : AreChanging (database_of s0) (take i changes) → IsChange (database_of s1) c → AreChanging (database_of s0) (take (i + 1) changes)
    changing_on before one =
        subst (λ (cs : List Change). AreChanging (database_of s0) cs) (sym (take_item changes i c within is))
        (all_append (IsChange (database_of s0)) (take i changes) (c ∷ []) before (still_changes (take i changes) s0 s1 cleared c (before_at s0.schema changes i c fits.ascending here) one, tt))

    low : (d : Change) → Contains changes d → FitsSchema s0.schema d → IsValidDatabase (put (database_of s0) changes) → IsLow d
    low (Put t row) among fit last = tt
    low (Delete t key) among fit last = tt
    low (Count t n) among fit last = by_counts (counts t (counter_of s0 t) changes)
      where
        same_number : (m : ℕ) → Count t m ≡ Count t n → m ≡ n
        same_number m e = cc

        by_counts : Counts t (counter_of s0 t) changes → n ≤ 2 ^ 63
        by_counts (inl found) =
            let equal : is_eq (change_cmp s0.schema (Count t found.0) (Count t n)) ≡ true = ap is_eq (same_place s0.schema (Count t found.0) (Count t n) refl refl) in
            let one = same_number found.0 (exact_in (change_cmp s0.schema) (change_total s0.schema) changes fits.ascending (Count t found.0) (Count t n) found.1 among equal) in
            low_counter changes s0 fits.ascending last t n (omega (arith, fit.0, schema_long s0 valid)) (found.2 ∙ one)
        by_counts (inr none) = absurd (none.0 n among)

    pub not_cleared : (IsChange (database_of s1) c → IsLow c → ⊥) → Applies (database_of s0) changes → ⊥
    not_cleared refused applies =
        refused (changed_still (take i changes) s0 s1 cleared c (before_at s0.schema changes i c fits.ascending here) (all_members (IsChange (database_of s0)) changes c applies.each inside))
        (low c inside (all_members (FitsSchema s0.schema) changes c fits.each inside) applies.valid)

  module _ (s1 : State) (cleared : AreCleared changes s0 s1) where
    can_come : Applies (database_of s0) changes → (at : ℕ) (state : State) → AreFilled (take at changes) s1 state → IsValidState state → (c : Change) → slice_get changes at ≡ Some c → FitsSchema s0.schema c → CanCome state c
    can_come applies at state filled now (Put t row) here fit =
        can_stand changes s0 fits.ascending applies.valid s1 cleared at t row state here filled now (omega (arith, fit.0, schema_long s0 valid)) (held_row (columns_of s0 t) row fit.1)
    can_come applies at state filled now (Delete t key) here fit = tt
    can_come applies at state filled now (Count t counter) here fit = tt

    pub not_filled : IsBarred changes s1 → Applies (database_of s0) changes → ⊥
    not_filled barred applies =
        barred.barred (can_come applies barred.at barred.state barred.filled barred.valid barred.change barred.here
        (all_members (FitsSchema s0.schema) changes barred.change fits.each (contains_at changes barred.at barred.change barred.here)))

    pub carried : (s2 : State) → IsValidState s2 → AreChanging (database_of s0) changes → AreFilled changes s1 s2 → Applies (database_of s0) changes × (database_of s2 ≡ put (database_of s0) changes)
    carried s2 now changing filled =
        let made = made_put changes s0 s1 s2 valid now fits.ascending cleared filled in
        (record { each = changing; valid = subst IsValidDatabase made (database_valid s2 now) }, made)
