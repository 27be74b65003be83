-- Tables and columns are found again by their names.
use Rattle.std.proofs.Common.{◌≡◌, ℕ, zero, suc, ◌+◌, ◌<◌, ◌≤◌, Bool, true, false, List, [], ◌∷◌, length, map, Some, refl, ap, sym, subst, ◌∙◌, arith}
use Rattle.std.specs.Prelude.{not, ◌||◌, cond, slice_get}
use Rattle.std.specs.List.{list_any, position_from}
use Rattle.std.specs.Str.{bytes_eq}
use Rattle.std.specs.Char.{to_ascii_lowercase}
use Rattle.std.proofs.lemmas.Slice.Eq.{bytes_eq-Decides}
use Rattle.row_types.specs.declared.columns.Column.{Column}
use Rattle.row_types.specs.declared.tables.TableDef.{TableDef}
use Rattle.row_types.specs.declared.tables.Schema.{Schema}
use Rattle.row_types.specs.Valid.{is_name, are_distinct, same_column, same_table, IsColumn, AreColumns, IsValid}
use Rattle.sql_parse.specs.Names.{or_nowhere, column_place, table_in}
use Rattle.sql_parse.specs.Spelling.{name_in}
use Rattle.sql_parse.proofs.Cases.{and_true, both_true, not_true, some_same, all_get, get_within}

pub get_some : {X : Type 0} (xs : List X) (n : ℕ) → n < length xs → (x : X) × (slice_get xs n ≡ Some x)
get_some [] n lt = absurd (omega (arith, lt))
get_some (x ∷ xs) zero lt = (x, refl)
get_some (x ∷ xs) (suc n) lt = get_some xs n (omega (arith, lt))

or_true : (a b : Bool) → b ≡ true → (a || b) ≡ true
or_true true b is = refl
or_true false b is = is

module _ {X : Type 0} (same : X → X → Bool) (turned : (x y : X) → same x y ≡ true → same y x ≡ true) (itself : (x : X) → same x x ≡ true) where
  any_at : (y x : X) (xs : List X) (n : ℕ) → slice_get xs n ≡ Some x → same x y ≡ true → list_any (λ z. same z y) xs ≡ true
  any_at y x [] n at is = absurd cc
  any_at y x (z ∷ zs) zero at is = ap (λ b. b || list_any (λ z. same z y) zs) (subst (λ w. same w y ≡ true) (sym (some_same z x at)) is)
  any_at y x (z ∷ zs) (suc n) at is = or_true (same z y) (list_any (λ z. same z y) zs) (any_at y x zs n at is)

  -- Of distinct items each is the first of its sort.
  pub first_at : (x : X) (xs : List X) (n : ℕ) → are_distinct same xs ≡ true → slice_get xs n ≡ Some x → (from : ℕ) → position_from (λ y. same y x) from xs ≡ Some (from + n)
  first_at x [] n distinct at from = absurd cc
  first_at x (y ∷ ys) zero distinct at from =
      let e : from ≡ from + 0 = omega arith in
      ap (λ b. cond b (Some from) (position_from (λ y. same y x) (from + 1) ys)) (subst (λ w. same w x ≡ true) (sym (some_same y x at)) (itself x)) ∙ ap Some e
  first_at x (y ∷ ys) (suc n) distinct at from =
      let parts = and_true (not (list_any (λ z. same z y) ys)) (are_distinct same ys) distinct in
      let e : from + 1 + n ≡ from + suc n = omega arith in
      ap (λ b. cond b (Some from) (position_from (λ y. same y x) (from + 1) ys)) (other (same y x) refl (not_true (list_any (λ z. same z y) ys) parts.0)) ∙ first_at x ys n parts.1 at (from + 1) ∙ ap Some e
    where
      other : (b : Bool) → same y x ≡ b → list_any (λ z. same z y) ys ≡ false → b ≡ false
      other false is none = refl
      other true is none = absurd (let found = any_at y x ys n at (turned y x is) in cc)

bytes_turned : (a b : List ℕ) → bytes_eq a b ≡ true → bytes_eq b a ≡ true
bytes_turned a b is = (bytes_eq-Decides b a).1 (sym ((bytes_eq-Decides a b).0 is))

bytes_itself : (a : List ℕ) → bytes_eq a a ≡ true
bytes_itself a = (bytes_eq-Decides a a).1 refl

column_turned : (c d : Column) → same_column c d ≡ true → same_column d c ≡ true
column_turned c d is = bytes_turned (map to_ascii_lowercase c.name) (map to_ascii_lowercase d.name) is

table_turned : (s t : TableDef) → same_table s t ≡ true → same_table t s ≡ true
table_turned s t is =
    let parts = and_true (bytes_eq s.db t.db) (bytes_eq s.name t.name) is in
    both_true (bytes_eq t.db s.db) (bytes_eq t.name s.name) (bytes_turned s.db t.db parts.0) (bytes_turned s.name t.name parts.1)

somewhere : (place : ℕ) → place ≤ 64 → or_nowhere (Some place) ≡ place
somewhere place le = omega (arith, le)

-- The column at a place of a table has a name, by which it is found.
pub column_again : (columns : List Column) → AreColumns columns → (place : ℕ) → place < length columns → (is_name (name_in (slice_get columns place)) ≡ true) × (column_place columns (name_in (slice_get columns place)) ≡ place)
column_again columns are place lt =
    let at = get_some columns place lt in
    let c = at.0 in
    let first : position_from (λ d. same_column d c) 0 columns ≡ Some place = first_at same_column column_turned (λ d. bytes_itself (map to_ascii_lowercase d.name)) c columns place are.names at.1 0 ∙ ap Some (let e : 0 + place ≡ place = omega arith in e) in
    let named : column_place columns c.name ≡ place = ap or_nowhere first ∙ somewhere place (omega (arith, lt, are.most)) in (
      subst (λ o. is_name (name_in o) ≡ true) (sym at.1) (all_get IsColumn columns place c are.each at.1).name,
      subst (λ o. column_place columns (name_in o) ≡ place) (sym at.1) named,
    )

pub table_again : (schema : Schema) (t : TableDef) (n : ℕ) → IsValid schema → slice_get schema.tables n ≡ Some t → table_in schema t.db t.name ≡ n
table_again schema t n valid at =
    let first : position_from (λ s. same_table s t) 0 schema.tables ≡ Some n = first_at same_table table_turned (λ s. both_true (bytes_eq s.db s.db) (bytes_eq s.name s.name) (bytes_itself s.db) (bytes_itself s.name)) t schema.tables n valid.names at 0 ∙ ap Some (let e : 0 + n ≡ n = omega arith in e) in
    ap or_nowhere first ∙ somewhere n (omega (arith, get_within schema.tables n t at, valid.most))
