-- Tests of rows and keys, as what they say of the members of a list.
--     any_member, member_any, none_member, member_none      a test that some member passes, or none
--     key_itself, key_same      a key compares as equal with itself alone
--     holds_key, key_held, lacks_key, key_lacking      whether rows have a key
--     holds_row, row_held, lacks_row, row_lacking      whether they have a row
--     member_mapped, mapped_member      members through a function
--     apart_append      two lists with nothing in common
use Rattle.std.proofs.Common.{◌≡◌, ℕ, Bool, true, false, ◌||◌, List, [], ◌∷◌, ◌++◌, map, refl, sym, ap, subst, ◌∙◌, inl, inr}
use Rattle.std.specs.Prelude.{Contains}
use Rattle.std.specs.List.{list_any, AllByRecursion}
use Rattle.std.specs.declared.cmp.Ordering.{Ordering}
use Rattle.std.specs.declared.cmp.Ordering.TheVariants.{Less, Equal, Greater}
use Rattle.std.specs.Ordering.{is_eq, ordering_reverse}
use Rattle.std.proofs.lemmas.Bool.{cases_Bool, true≢false}
use Rattle.index_tree.specs.Ordered.{AreApart, IsApartFrom}
use Rattle.index_tree.proofs.Ascending.{equal_is}
use Rattle.index_tree.proofs.Elements.{no_member, contains_first, contains_later, contains_cases, all_append}
use Rattle.row_types.specs.declared.values.Value.{Value}
use Rattle.row_types.specs.Order.{key_cmp}
use Rattle.row_types.proofs.Orders.{key_cmp_total}
use Rattle.table_rows.specs.Entries.{cells}
use Rattle.table_rows.proofs.Keys.{key_exact}
use Rattle.change_set.specs.Net.{has_key, has_row}

or_true : (b : Bool) → (b || true) ≡ true
or_true true = refl
or_true false = refl

module _ {X : Type 0} (test : X → Bool) where
  pub any_member : (xs : List X) → list_any test xs ≡ true → (x : X) × Contains xs x × (test x ≡ true)
  any_member [] any = absurd (true≢false (sym any))
  any_member (x ∷ xs) any =
      elim (cases_Bool (test x)) [
        | inl is_so ↦ (x, contains_first x xs, is_so)
        | inr not_so ↦
            let rest = any_member xs (subst (λ (b : Bool). (b || list_any test xs) ≡ true) not_so any) in
            (rest.0, contains_later x xs rest.0 rest.1, rest.2)
      ]

  pub member_any : (xs : List X) (x : X) → Contains xs x → test x ≡ true → list_any test xs ≡ true
  member_any [] x inside is = absurd (no_member x inside)
  member_any (y ∷ xs) x inside is =
      elim (contains_cases y xs x inside) [
        | inl same ↦ subst (λ (b : Bool). (b || list_any test xs) ≡ true) (sym (ap test same ∙ is)) refl
        | inr later ↦ subst (λ (b : Bool). (test y || b) ≡ true) (sym (member_any xs x later is)) (or_true (test y))
      ]

  pub none_member : (xs : List X) (x : X) → list_any test xs ≡ false → Contains xs x → test x ≡ true → ⊥
  none_member xs x none inside is = true≢false (sym (member_any xs x inside is) ∙ none)

  pub member_none : (xs : List X) → ((x : X) → Contains xs x → test x ≡ true → ⊥) → list_any test xs ≡ false
  member_none xs none =
      elim (cases_Bool (list_any test xs)) [
        | inl any ↦ let found = any_member xs any in absurd (none found.0 found.1 found.2)
        | inr not_so ↦ not_so
      ]

equal_itself : (o : Ordering) → o ≡ ordering_reverse o → is_eq o ≡ true
equal_itself Less e = absurd cc
equal_itself Equal e = refl
equal_itself Greater e = absurd cc

pub key_itself : (key : List Value) → is_eq (key_cmp key key) ≡ true
key_itself key = equal_itself (key_cmp key key) (key_cmp_total.antisymm key key)

pub key_same : (a b : List Value) → is_eq (key_cmp a b) ≡ true → a ≡ b
key_same a b equal = key_exact a b (equal_is (key_cmp a b) equal)

key_equal : (a b : List Value) → a ≡ b → is_eq (key_cmp a b) ≡ true
key_equal a b same = subst (λ (c : List Value). is_eq (key_cmp a c) ≡ true) same (key_itself a)

module _ (columns : List ℕ) (rows : List (List Value)) (key : List Value) where
  pub holds_key : has_key columns rows key ≡ true → (row : List Value) × Contains rows row × (cells columns row ≡ key)
  holds_key has =
      let found = any_member (λ (row : List Value). is_eq (key_cmp (cells columns row) key)) rows has in
      (found.0, found.1, key_same (cells columns found.0) key found.2)

  pub key_held : (row : List Value) → Contains rows row → cells columns row ≡ key → has_key columns rows key ≡ true
  key_held row inside is = member_any (λ (row : List Value). is_eq (key_cmp (cells columns row) key)) rows row inside (key_equal (cells columns row) key is)

  pub lacks_key : has_key columns rows key ≡ false → (row : List Value) → Contains rows row → cells columns row ≡ key → ⊥
  lacks_key lacks row inside is = none_member (λ (row : List Value). is_eq (key_cmp (cells columns row) key)) rows row lacks inside (key_equal (cells columns row) key is)

  pub key_lacking : ((row : List Value) → Contains rows row → cells columns row ≡ key → ⊥) → has_key columns rows key ≡ false
  key_lacking none = member_none (λ (row : List Value). is_eq (key_cmp (cells columns row) key)) rows (λ row inside is. none row inside (key_same (cells columns row) key is))

module _ (rows : List (List Value)) (row : List Value) where
  pub holds_row : has_row rows row ≡ true → Contains rows row
  holds_row has =
      let found = any_member (λ (other : List Value). is_eq (key_cmp other row)) rows has in
      subst (Contains rows) (key_same found.0 row found.2) found.1

  pub row_held : Contains rows row → has_row rows row ≡ true
  row_held inside = member_any (λ (other : List Value). is_eq (key_cmp other row)) rows row inside (key_itself row)

  pub lacks_row : has_row rows row ≡ false → Contains rows row → ⊥
  lacks_row lacks inside = true≢false (sym (row_held inside) ∙ lacks)

  pub row_lacking : (Contains rows row → ⊥) → has_row rows row ≡ false
  row_lacking none =
      elim (cases_Bool (has_row rows row)) [
        | inl has ↦ absurd (none (holds_row has))
        | inr not_so ↦ not_so
      ]

module _ {X Y : Type 0} (f : X → Y) where
  pub member_mapped : (xs : List X) (x : X) → Contains xs x → Contains (map f xs) (f x)
  member_mapped [] x inside = absurd (no_member x inside)
  member_mapped (y ∷ xs) x inside =
      elim (contains_cases y xs x inside) [
        | inl same ↦ subst (λ (z : X). Contains (f y ∷ map f xs) (f z)) same (contains_first (f y) (map f xs))
        | inr later ↦ contains_later (f y) (map f xs) (f x) (member_mapped xs x later)
      ]

  pub mapped_member : (xs : List X) (y : Y) → Contains (map f xs) y → (x : X) × Contains xs x × (f x ≡ y)
  mapped_member [] y inside = absurd (no_member y inside)
  mapped_member (x ∷ xs) y inside =
      elim (contains_cases (f x) (map f xs) y inside) [
        | inl same ↦ (x, contains_first x xs, same)
        | inr later ↦ let rest = mapped_member xs y later in (rest.0, contains_later x xs rest.0 rest.1, rest.2)
      ]

module _ {X : Type 0} (cmp : X → X → Ordering) where
  pub apart_append : (xs ys : List X) → AreApart cmp xs → AreApart cmp ys → AllByRecursion (λ x. IsApartFrom cmp x ys) xs → AreApart cmp (xs ++ ys)
  apart_append [] ys first second between = second
  apart_append (x ∷ xs) ys first second between =
      (all_append (λ (y : X). is_eq (cmp x y) ≡ false) xs ys first.0 between.0, apart_append xs ys first.1 second between.1)
