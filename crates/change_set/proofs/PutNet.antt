-- Net changes put on the tables from before make those from after.
--     key_tells      two rows of a table with one primary key are one
--     holding_is      what it makes of that table
--     holdings_are      what the net changes of all tables make of them
use Rattle.std.proofs.Common.{◌≡◌, ℕ, suc, ◌<◌, ◌≤◌, Bool, true, false, not, cond, eqb, List, [], ◌∷◌, ◌++◌, length, refl, sym, ap, ap₂, subst, ◌∙◌, inl, inr, ◌⊎◌, arith, append_assoc}
use Rattle.std.specs.Prelude.{Contains, slice_get}
use Rattle.std.specs.List.{AllByRecursion, list_any}
use Rattle.std.specs.declared.cmp.Ordering.{Ordering}
use Rattle.std.specs.declared.cmp.Ordering.TheVariants.{Less}
use Rattle.std.specs.Ordering.{is_eq}
use Rattle.std.proofs.lemmas.Bool.{cases_Bool, true≢false, and_parts, eqb-true}
use Rattle.std.proofs.lemmas.Option.{same_Some}
use Rattle.std.proofs.lemmas.List.Elements.{Contains-append_left, Contains-append_right, Contains-append_cases}
use Rattle.index_tree.specs.Ordered.{IsAscending, AreApart, IsApartFrom, HaveSameMembers}
use Rattle.index_tree.proofs.Apart.{apart_from_ascending, apart_at}
use Rattle.index_tree.proofs.Ascending.{ascending_kept}
use Rattle.index_tree.proofs.Elements.{no_member, contains_first, contains_later, contains_cases, place_of_member, all_members, each_member, all_append, all_weaker, kept_member, member_of_kept, kept_passes}
use Rattle.index_tree.proofs.InOrder.{in_order_is}
use Rattle.row_types.specs.declared.values.Value.{Value}
use Rattle.row_types.specs.declared.tables.Schema.{Schema}
use Rattle.row_types.specs.Order.{key_cmp}
use Rattle.table_rows.specs.Entries.{cells}
use Rattle.table_rows.specs.Database.{Holding}
use Rattle.table_rows.proofs.BySlot.{same_slot}
use Rattle.change_set.specs.declared.change.Change.{Change}
use Rattle.change_set.specs.declared.change.Change.TheVariants.{Put, Delete, Count}
use Rattle.change_set.specs.Sets.{table_of, key_columns, change_cmp}
use Rattle.change_set.specs.Net.{has_key, has_row, table_changes, changes_from}
use Rattle.change_set.specs.Putting.{row_cmp, is_of_row, rows_left, rows_put, counter_put, holding_put, holdings_put}
use Rattle.change_set.proofs.RowTests.{none_member, member_none, key_itself, key_same, holds_key, lacks_key, holds_row, lacks_row, apart_append}
use Rattle.change_set.proofs.NetMembers.{IsNetOf, net_of_member, member_of_net, not_true, not_false}
use Rattle.change_set.proofs.NetOrder.{Ascends, EachAscends, row_total, same_place, of_table, not_before}

-- a row's key tells it
pub key_tells : (columns : List ℕ) (rows : List (List Value)) → IsAscending (row_cmp columns) rows → (a b : List Value) → Contains rows a → Contains rows b → cells columns a ≡ cells columns b → a ≡ b
key_tells columns rows ascending a b first second same =
    let i = place_of_member rows a first in
    let j = place_of_member rows b second in
    let equal : is_eq (row_cmp columns a b) ≡ true = subst (λ (key : List Value). is_eq (key_cmp (cells columns a) key) ≡ true) same (key_itself (cells columns a)) in
    let place = apart_at (row_cmp columns) (row_total columns) rows (apart_from_ascending (row_cmp columns) rows ascending) i.0 j.0 a b i.1 j.1 equal in
    same_Some a b (sym i.1 ∙ ap (slice_get rows) place ∙ j.1)

-- the row of a change that puts one
abbrev row_in : Change → List Value
row_in (Put t row) = row
row_in (Delete t key) = key
row_in (Count t counter) = []

-- a change that puts a row, by its table
pub put_member : (table : ℕ) (changes : List Change) (row : List Value) → Contains changes (Put table row) → Contains (rows_put table changes) row
put_member table [] row inside = absurd (no_member (Put table row) inside)
put_member table (Put t other ∷ changes) row inside =
    elim (contains_cases (Put t other) changes (Put table row) inside) [
      | inl same ↦
          subst (λ (r : List Value). Contains (rows_put table (Put t other ∷ changes)) r) (ap row_in same)
          (rw (ap (λ (n : ℕ). eqb n table) (ap table_of same) ∙ same_slot table) (contains_first other (rows_put table changes)))
      | inr later ↦
          elim (cases_Bool (eqb t table)) [
            | inl is_so ↦ rw is_so (contains_later other (rows_put table changes) row (put_member table changes row later))
            | inr not_so ↦ rw not_so (put_member table changes row later)
          ]
    ]
put_member table (Delete t key ∷ changes) row inside =
    elim (contains_cases (Delete t key) changes (Put table row) inside) [
      | inl same ↦ absurd cc
      | inr later ↦ put_member table changes row later
    ]
put_member table (Count t counter ∷ changes) row inside =
    elim (contains_cases (Count t counter) changes (Put table row) inside) [
      | inl same ↦ absurd cc
      | inr later ↦ put_member table changes row later
    ]

pub member_put : (table : ℕ) (changes : List Change) (row : List Value) → Contains (rows_put table changes) row → Contains changes (Put table row)
member_put table [] row inside = absurd (no_member row inside)
member_put table (Put t other ∷ changes) row inside =
    elim (cases_Bool (eqb t table)) [
      | inl is_so ↦
          elim (contains_cases other (rows_put table changes) row (subst (λ (b : Bool). Contains (cond b (other ∷ rows_put table changes) (rows_put table changes)) row) is_so inside)) [
            | inl same ↦ subst (λ (c : Change). Contains (Put t other ∷ changes) c) (ap₂ (λ (n : ℕ) (r : List Value). Put n r) (eqb-true t table is_so) same) (contains_first (Put t other) changes)
            | inr later ↦ contains_later (Put t other) changes (Put table row) (member_put table changes row later)
          ]
      | inr not_so ↦ contains_later (Put t other) changes (Put table row) (member_put table changes row (subst (λ (b : Bool). Contains (cond b (other ∷ rows_put table changes) (rows_put table changes)) row) not_so inside))
    ]
member_put table (Delete t key ∷ changes) row inside = contains_later (Delete t key) changes (Put table row) (member_put table changes row inside)
member_put table (Count t counter ∷ changes) row inside = contains_later (Count t counter) changes (Put table row) (member_put table changes row inside)

-- the counter that a set gives a table, or that no change gives it one
abbrev pub Counts : ℕ → ℕ → List Change → Type 0
Counts table before changes =
    ((counter : ℕ) × Contains changes (Count table counter) × (counter_put table before changes ≡ counter))
    ⊎ (((counter : ℕ) → Contains changes (Count table counter) → ⊥) × (counter_put table before changes ≡ before))

counts_later : (table before : ℕ) (c : Change) (changes : List Change) → counter_put table before (c ∷ changes) ≡ counter_put table before changes → ((counter : ℕ) → c ≡ Count table counter → ⊥) → Counts table before changes → Counts table before (c ∷ changes)
counts_later table before c changes is other (inl found) = inl (found.0, contains_later c changes (Count table found.0) found.1, is ∙ found.2)
counts_later table before c changes is other (inr none) =
    inr (
      (λ counter inside. elim (contains_cases c changes (Count table counter) inside) [
        | inl same ↦ other counter same
        | inr later ↦ none.0 counter later
      ]),
      is ∙ none.1,
    )

pub counts : (table before : ℕ) (changes : List Change) → Counts table before changes
counts table before [] = inr ((λ counter inside. no_member (Count table counter) inside), refl)
counts table before (Put t row ∷ changes) = counts_later table before (Put t row) changes refl (λ counter same. absurd cc) (counts table before changes)
counts table before (Delete t key ∷ changes) = counts_later table before (Delete t key) changes refl (λ counter same. absurd cc) (counts table before changes)
counts table before (Count t counter ∷ changes) =
    elim (cases_Bool (eqb t table)) [
      | inl is_so ↦ inl (counter, subst (λ (n : ℕ). Contains (Count t counter ∷ changes) (Count n counter)) (eqb-true t table is_so) (contains_first (Count t counter) changes), rw is_so refl)
      | inr not_so ↦ counts_later table before (Count t counter) changes (rw not_so refl) (λ other same. true≢false (sym (ap (λ (n : ℕ). eqb n table) (ap table_of same) ∙ same_slot table) ∙ not_so)) (counts table before changes)
    ]

module _ (schema : Schema) (changes : List Change) (ascending : IsAscending (change_cmp schema) changes) (table : ℕ) where
  abbrev columns : List ℕ
  columns = key_columns schema table

  -- the rows that are put are apart
  pub puts_apart : (some : List Change) → IsAscending (change_cmp schema) some → AreApart (row_cmp columns) (rows_put table some)
  puts_apart [] ascends = tt
  puts_apart (Delete t key ∷ some) ascends = puts_apart some ascends.1
  puts_apart (Count t counter ∷ some) ascends = puts_apart some ascends.1
  puts_apart (Put t row ∷ some) ascends =
      elim (cases_Bool (eqb t table)) [
        | inl is_so ↦ rw is_so (first_apart (eqb-true t table is_so), puts_apart some ascends.1)
        | inr not_so ↦ rw not_so (puts_apart some ascends.1)
      ]
    where
      less_apart : (o : Ordering) → o ≡ Less → is_eq o ≡ false
      less_apart o is = rw is refl

      first_apart : t ≡ table → IsApartFrom (row_cmp columns) row (rows_put table some)
      first_apart same =
          each_member (λ (other : List Value). is_eq (row_cmp columns row other) ≡ false) (rows_put table some)
          (λ other inside.
          let less : change_cmp schema (Put t row) (Put table other) ≡ Less = all_members (λ (d : Change). change_cmp schema (Put t row) d ≡ Less) some (Put table other) ascends.0 (member_put table some other inside) in
          less_apart (row_cmp columns row other) (sym (same_place schema (Put table row) (Put table other) refl refl) ∙ ap (λ (n : ℕ). change_cmp schema (Put n row) (Put table other)) (sym same) ∙ less))

  module _ (before after : Holding) (old : Ascends schema table before.rows) (new : Ascends schema table after.rows)
      (net : (c : Change) → table_of c ≡ table → Contains changes c → IsNetOf schema table before after c)
      (all : (c : Change) → table_of c ≡ table → IsNetOf schema table before after c → Contains changes c) where
    abbrev left : List Value → Bool
    left row = not (list_any (is_of_row schema table (cells columns row)) changes)

    abbrev made : List (List Value)
    made = rows_left schema table changes before.rows ++ rows_put table changes

    -- no change is of a row that stays
    no_change : (row : List Value) → Contains before.rows row → Contains after.rows row → (c : Change) → Contains changes c → is_of_row schema table (cells columns row) c ≡ true → ⊥
    no_change row here there (Put t other) inside is =
        let both = and_parts _ _ is in
        let one = net (Put t other) (eqb-true t table both.0) inside in
        one.2 (subst (Contains before.rows) (key_tells columns after.rows new row other there one.1 (sym (key_same (cells columns other) (cells columns row) both.1))) here)
    no_change row here there (Delete t key) inside is =
        let both = and_parts _ _ is in
        let one = net (Delete t key) (eqb-true t table both.0) inside in
        one.2 row there (sym (key_same key (cells columns row) both.1))
    no_change row here there (Count t counter) inside is = true≢false (sym is)

    -- some change is of a row that does not stay
    of_itself : (row : List Value) → is_of_row schema table (cells columns row) (Put table row) ≡ true
    of_itself row = rw (same_slot table, key_itself (cells columns row)) refl

    of_key : (row : List Value) (other : List Value) → cells columns other ≡ cells columns row → is_of_row schema table (cells columns row) (Put table other) ≡ true
    of_key row other same = rw (same_slot table, same, key_itself (cells columns row)) refl

    of_deletion : (row : List Value) → is_of_row schema table (cells columns row) (Delete table (cells columns row)) ≡ true
    of_deletion row = rw (same_slot table, key_itself (cells columns row)) refl

    stays : (row : List Value) → Contains before.rows row → left row ≡ true → Contains after.rows row
    stays row here passes =
        elim (cases_Bool (has_row after.rows row)) [
          | inl has ↦ holds_row after.rows row has
          | inr lacks ↦ absurd (gone (lacks_row after.rows row lacks))
        ]
      where
        none : (c : Change) → Contains changes c → is_of_row schema table (cells columns row) c ≡ true → ⊥
        none c inside is = none_member (is_of_row schema table (cells columns row)) changes c (not_true _ passes) inside is

        other_row : (Contains after.rows row → ⊥) → (other : List Value) → Contains after.rows other → cells columns other ≡ cells columns row → ⊥
        other_row lacks other there same =
            elim (cases_Bool (has_row before.rows other)) [
              | inl has ↦ lacks (subst (Contains after.rows) (key_tells columns before.rows old other row (holds_row before.rows other has) here same) there)
              | inr new-row ↦ none (Put table other) (all (Put table other) refl (refl, there, lacks_row before.rows other new-row)) (of_key row other same)
            ]

        gone : (Contains after.rows row → ⊥) → ⊥
        gone lacks =
            elim (cases_Bool (has_key columns after.rows (cells columns row))) [
              | inl has ↦ let found = holds_key columns after.rows (cells columns row) has in other_row lacks found.0 found.1 found.2
              | inr not_so ↦ none (Delete table (cells columns row)) (all (Delete table (cells columns row)) refl (refl, (row, here, refl), lacks_key columns after.rows (cells columns row) not_so)) (of_deletion row)
            ]

    same_rows : HaveSameMembers after.rows made
    same_rows row = (forth, back)
      where
        forth : Contains after.rows row → Contains made row
        forth there =
            elim (cases_Bool (has_row before.rows row)) [
              | inl has ↦
                  let here = holds_row before.rows row has in
                  let passes = not_false _ (member_none (is_of_row schema table (cells columns row)) changes (no_change row here there)) in
                  Contains-append_left (rows_left schema table changes before.rows) (rows_put table changes) row (kept_member left before.rows row here passes)
              | inr lacks ↦
                  Contains-append_right (rows_left schema table changes before.rows) (rows_put table changes) row
                  (put_member table changes row (all (Put table row) refl (refl, there, lacks_row before.rows row lacks)))
            ]

        back : Contains made row → Contains after.rows row
        back inside =
            elim (Contains-append_cases (rows_left schema table changes before.rows) (rows_put table changes) row inside) [
              | inl kept ↦ stays row (member_of_kept left before.rows row kept) (kept_passes left before.rows row kept)
              | inr put ↦ (net (Put table row) refl (member_put table changes row put)).1
            ]

    made_apart : AreApart (row_cmp columns) made
    made_apart =
        apart_append (row_cmp columns) (rows_left schema table changes before.rows) (rows_put table changes)
        (apart_from_ascending (row_cmp columns) (rows_left schema table changes before.rows) (ascending_kept (row_cmp columns) left before.rows old))
        (puts_apart changes ascending)
        (each_member (λ (row : List Value). IsApartFrom (row_cmp columns) row (rows_put table changes)) (rows_left schema table changes before.rows)
        (λ row kept. each_member (λ (other : List Value). is_eq (row_cmp columns row other) ≡ false) (rows_put table changes) (λ other put. apart row kept other put)))
      where
        apart : (row : List Value) → Contains (rows_left schema table changes before.rows) row → (other : List Value) → Contains (rows_put table changes) other → is_eq (row_cmp columns row other) ≡ false
        apart row kept other put =
            elim (cases_Bool (is_eq (row_cmp columns row other))) [
              | inl same ↦ absurd (none_member (is_of_row schema table (cells columns row)) changes (Put table other) (not_true _ (kept_passes left before.rows row kept)) (member_put table changes other put) (of_key row other (sym (key_same (cells columns row) (cells columns other) same))))
              | inr not_so ↦ not_so
            ]

    counter_is : counter_put table before.counter changes ≡ after.counter
    counter_is = by_counts (counts table before.counter changes)
      where
        by_counts : Counts table before.counter changes → counter_put table before.counter changes ≡ after.counter
        by_counts (inl found) = found.2 ∙ (net (Count table found.0) refl found.1).1
        by_counts (inr none) =
            none.1 ∙ elim (cases_Bool (eqb before.counter after.counter)) [
              | inl same ↦ eqb-true before.counter after.counter same
              | inr other ↦ absurd (none.0 after.counter (all (Count table after.counter) refl (refl, refl, λ e. true≢false (sym (subst (λ (n : ℕ). eqb before.counter n ≡ true) e (same_slot before.counter)) ∙ other))))
            ]

    pub holding_is : holding_put schema changes table before ≡ after
    holding_is = ap₂ (λ (rows : List (List Value)) (counter : ℕ). record { rows = rows; counter = counter }) (sym (in_order_is (row_cmp columns) (row_total columns) after.rows made new made_apart same_rows)) counter_is

not_less : (a b : ℕ) → a ≡ b → a < b → ⊥
not_less a b is lt = omega (arith, is, lt)

not_more : (a b : ℕ) → a ≡ b → suc b ≤ a → ⊥
not_more a b is le = omega (arith, is, le)

module _ (schema : Schema) where
  -- the net changes of one table among those of all
  pub holdings_are : (front : List Change) (first : ℕ) (befores afters : List Holding) → length befores ≡ length afters → AllByRecursion (λ (c : Change). table_of c < first) front → EachAscends schema first befores → EachAscends schema first afters
      → IsAscending (change_cmp schema) (front ++ changes_from schema first befores afters) → holdings_put schema (front ++ changes_from schema first befores afters) first befores ≡ afters
  holdings_are front first [] [] same earlier old new ascending = refl
  holdings_are front first [] (a ∷ ys) same earlier old new ascending = absurd (omega (arith, same))
  holdings_are front first (b ∷ xs) [] same earlier old new ascending = absurd (omega (arith, same))
  holdings_are front first (b ∷ xs) (a ∷ ys) same earlier old new ascending =
      ap₂ (λ (h : Holding) (hs : List Holding). h ∷ hs) one
      (subst (λ (cs : List Change). holdings_put schema cs (suc first) xs ≡ ys) regroup
      (holdings_are (front ++ table_changes schema first b a) (suc first) xs ys (omega (arith, same))
      (all_append (λ (c : Change). table_of c < suc first) front (table_changes schema first b a)
      (all_weaker (λ (c : Change). table_of c < first) (λ (c : Change). table_of c < suc first) (λ c lt. omega (arith, lt)) front earlier)
      (all_weaker (λ (c : Change). table_of c ≡ first) (λ (c : Change). table_of c < suc first) (λ c is. omega (arith, is)) (table_changes schema first b a) (of_table schema first b a old.0 new.0)))
      old.1 new.1 (subst (IsAscending (change_cmp schema)) (sym regroup) ascending)))
    where
      rest : List Change
      rest = changes_from schema (suc first) xs ys

      whole : List Change
      whole = front ++ (table_changes schema first b a ++ rest)

      regroup : (front ++ table_changes schema first b a) ++ rest ≡ whole
      regroup = append_assoc front (table_changes schema first b a) rest

      net : (c : Change) → table_of c ≡ first → Contains whole c → IsNetOf schema first b a c
      net c is inside =
          elim (Contains-append_cases front (table_changes schema first b a ++ rest) c inside) [
            | inl before ↦ absurd (not_less (table_of c) first is (all_members (λ (d : Change). table_of d < first) front c earlier before))
            | inr here ↦
                elim (Contains-append_cases (table_changes schema first b a) rest c here) [
                  | inl own ↦ net_of_member schema first b a c own
                  | inr behind ↦ absurd (not_more (table_of c) first is (all_members (λ (d : Change). suc first ≤ table_of d) rest c (not_before schema (suc first) xs ys old.1 new.1) behind))
                ]
          ]

      all : (c : Change) → table_of c ≡ first → IsNetOf schema first b a c → Contains whole c
      all c is of =
          Contains-append_right front (table_changes schema first b a ++ rest) c
          (Contains-append_left (table_changes schema first b a) rest c (member_of_net schema first b a c of))

      one : holding_put schema whole first b ≡ a
      one = holding_is schema whole ascending first b a old.0 new.0 net all
