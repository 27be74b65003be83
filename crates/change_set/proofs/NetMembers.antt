-- Which changes a table's net changes are.
--     IsNetOf      a change from what the table had to what it has
--     net_of_member, member_of_net      the members of its net changes are these
use Rattle.std.proofs.Common.{◌≡◌, ℕ, Bool, true, false, not, cond, eqb, List, [], ◌∷◌, ◌++◌, filter, refl, sym, subst, ◌∙◌, inl, inr}
use Rattle.std.specs.Prelude.{Contains, ◌≢◌}
use Rattle.std.proofs.lemmas.Bool.{cases_Bool, true≢false, ne_eqb}
use Rattle.std.proofs.lemmas.List.Elements.{Contains-append_left, Contains-append_right, Contains-append_cases}
use Rattle.index_tree.proofs.Elements.{no_member, contains_first, contains_cases, kept_member, member_of_kept, kept_passes}
use Rattle.index_tree.proofs.InOrder.{in_order_members}
use Rattle.row_types.specs.declared.values.Value.{Value}
use Rattle.row_types.specs.declared.tables.Schema.{Schema}
use Rattle.table_rows.specs.Entries.{cells}
use Rattle.table_rows.specs.Database.{Holding}
use Rattle.table_rows.proofs.BySlot.{same_slot}
use Rattle.change_set.specs.declared.change.Change.{Change}
use Rattle.change_set.specs.declared.change.Change.TheVariants.{Put, Delete, Count}
use Rattle.change_set.specs.Sets.{key_columns, change_cmp}
use Rattle.change_set.specs.Net.{has_key, has_row, deletions, puts, row_changes, counter_changes, table_changes}
use Rattle.change_set.proofs.RowTests.{lacks_key, key_lacking, lacks_row, row_lacking, member_mapped, mapped_member}

pub not_true : (b : Bool) → not b ≡ true → b ≡ false
not_true true e = absurd (true≢false (sym e))
not_true false e = refl

pub not_false : (b : Bool) → b ≡ false → not b ≡ true
not_false b e = rw e refl

eqb-same : (a b : ℕ) → a ≡ b → eqb a b ≡ true
eqb-same a b same = subst (λ (c : ℕ). eqb a c ≡ true) same (same_slot a)

module _ (schema : Schema) (table : ℕ) where
  -- the columns of the primary key
  abbrev columns : List ℕ
  columns = key_columns schema table

  abbrev pub IsNetOf : Holding → Holding → Change → Type 0
  IsNetOf before after (Put t row) = (t ≡ table) × Contains after.rows row × (Contains before.rows row → ⊥)
  IsNetOf before after (Delete t key) =
      (t ≡ table)
      × ((row : List Value) × Contains before.rows row × (cells columns row ≡ key))
      × ((row : List Value) → Contains after.rows row → cells columns row ≡ key → ⊥)
  IsNetOf before after (Count t counter) = (t ≡ table) × (counter ≡ after.counter) × (before.counter ≢ after.counter)

  module _ (before after : Holding) where
    deleted : (change : Change) → Contains (deletions table columns before.rows after.rows) change → IsNetOf before after change
    deleted change inside =
        let found = mapped_member (λ (row : List Value). Delete table (cells columns row)) (filter (λ row. not (has_key columns after.rows (cells columns row))) before.rows) change inside in
        let row = found.0 in
        let test = λ (row : List Value). not (has_key columns after.rows (cells columns row)) in
        let here = member_of_kept test before.rows row found.1 in
        let gone = not_true _ (kept_passes test before.rows row found.1) in
        subst (IsNetOf before after) found.2 (refl, (row, here, refl), lacks_key columns after.rows (cells columns row) gone)

    put_there : (change : Change) → Contains (puts table before.rows after.rows) change → IsNetOf before after change
    put_there change inside =
        let test = λ (row : List Value). not (has_row before.rows row) in
        let found = mapped_member (Put table) (filter test after.rows) change inside in
        let row = found.0 in
        subst (IsNetOf before after) found.2 (refl, member_of_kept test after.rows row found.1, lacks_row before.rows row (not_true _ (kept_passes test after.rows row found.1)))

    counted : (change : Change) → Contains (counter_changes table before.counter after.counter) change → IsNetOf before after change
    counted change inside =
        elim (cases_Bool (eqb before.counter after.counter)) [
          | inl same ↦ absurd (no_member change (subst (λ (b : Bool). Contains (cond b [] (Count table after.counter ∷ [])) change) same inside))
          | inr other ↦
              elim (contains_cases (Count table after.counter) [] change (subst (λ (b : Bool). Contains (cond b [] (Count table after.counter ∷ [])) change) other inside)) [
                | inl is ↦ subst (IsNetOf before after) is (refl, refl, λ e. true≢false (sym (eqb-same before.counter after.counter e) ∙ other))
                | inr none ↦ absurd (no_member change none)
              ]
        ]

    pub net_of_member : (change : Change) → Contains (table_changes schema table before after) change → IsNetOf before after change
    net_of_member change inside =
        elim (Contains-append_cases (row_changes schema table before.rows after.rows) (counter_changes table before.counter after.counter) change inside) [
          | inl row ↦
              let both = deletions table columns before.rows after.rows ++ puts table before.rows after.rows in
              elim (Contains-append_cases (deletions table columns before.rows after.rows) (puts table before.rows after.rows) change ((in_order_members (change_cmp schema) both change).1 row)) [
                | inl first ↦ deleted change first
                | inr second ↦ put_there change second
              ]
          | inr count ↦ counted change count
        ]

    row_member : (change : Change) → Contains (deletions table columns before.rows after.rows ++ puts table before.rows after.rows) change → Contains (table_changes schema table before after) change
    row_member change inside =
        Contains-append_left (row_changes schema table before.rows after.rows) (counter_changes table before.counter after.counter) change
        ((in_order_members (change_cmp schema) (deletions table columns before.rows after.rows ++ puts table before.rows after.rows) change).0 inside)

    pub member_of_net : (change : Change) → IsNetOf before after change → Contains (table_changes schema table before after) change
    member_of_net (Put t row) net =
        let test = λ (row : List Value). not (has_row before.rows row) in
        let kept = kept_member test after.rows row net.1 (not_false _ (row_lacking before.rows row net.2)) in
        subst (λ (n : ℕ). Contains (table_changes schema table before after) (Put n row)) (sym net.0)
        (row_member (Put table row) (Contains-append_right (deletions table columns before.rows after.rows) (puts table before.rows after.rows) (Put table row) (member_mapped (Put table) (filter test after.rows) row kept)))
    member_of_net (Delete t key) net =
        let test = λ (row : List Value). not (has_key columns after.rows (cells columns row)) in
        let row = net.1.0 in
        let lacks = key_lacking columns after.rows (cells columns row) (λ other inside is. net.2 other inside (is ∙ net.1.2)) in
        let kept = kept_member test before.rows row net.1.1 (not_false _ lacks) in
        let made = row_member (Delete table (cells columns row)) (Contains-append_left (deletions table columns before.rows after.rows) (puts table before.rows after.rows) (Delete table (cells columns row)) (member_mapped (λ (row : List Value). Delete table (cells columns row)) (filter test before.rows) row kept)) in
        subst (λ (n : ℕ). Contains (table_changes schema table before after) (Delete n key)) (sym net.0)
        (subst (λ (k : List Value). Contains (table_changes schema table before after) (Delete table k)) net.1.2 made)
    member_of_net (Count t counter) net =
        let here : Contains (counter_changes table before.counter after.counter) (Count table after.counter) = rw (ne_eqb before.counter after.counter net.2) (contains_first (Count table after.counter) []) in
        subst (λ (n : ℕ). Contains (table_changes schema table before after) (Count n counter)) (sym net.0)
        (subst (λ (c : ℕ). Contains (table_changes schema table before after) (Count table c)) (sym net.1)
        (Contains-append_right (row_changes schema table before.rows after.rows) (counter_changes table before.counter after.counter) (Count table after.counter) here))
