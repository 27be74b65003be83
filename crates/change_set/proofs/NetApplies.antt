-- The net changes between valid tables apply.
--     holding_at      what a table of a number has
--     net_applies      each of them changes something
use Rattle.std.proofs.Common.{◌≡◌, ℕ, suc, ◌+◌, ◌<◌, ◌≤◌, true, false, List, [], ◌∷◌, map, length, get_or, refl, sym, ap, subst, ◌∙◌, inl, inr, arith}
use Rattle.std.specs.Prelude.{Contains, IsSome, ◌≢◌, Option, Some, None}
use Rattle.std.specs.List.{AllZip}
use Rattle.std.proofs.lemmas.List.Elements.{Contains-append_cases}
use Rattle.index_tree.proofs.Elements.{no_member, each_member}
use Rattle.row_types.specs.declared.tables.TableDef.{TableDef}
use Rattle.row_types.specs.declared.tables.Schema.{Schema}
use Rattle.row_types.specs.Counted.{counted_of}
use Rattle.table_rows.specs.Counters.{IsCounter}
use Rattle.table_rows.specs.Rows.{no_table}
use Rattle.table_rows.specs.Valid.{AreValidRows}
use Rattle.table_rows.specs.Database.{Database, Holding, no_holding, placed}
use Rattle.change_set.specs.declared.change.Change.{Change}
use Rattle.change_set.specs.declared.change.Change.TheVariants.{Put, Delete, Count}
use Rattle.change_set.specs.Sets.{def_in, key_columns}
use Rattle.change_set.specs.Net.{has_key, has_row, table_changes, changes_from, changes}
use Rattle.change_set.specs.Putting.{holding_of, IsValidDatabase, IsChange, Applies, NoneLower}
use Rattle.change_set.proofs.RowTests.{key_held, row_lacking}
use Rattle.change_set.proofs.NetMembers.{IsNetOf, net_of_member}
use Rattle.change_set.proofs.Nets.{put_of_changes}

module _ (schema : Schema) where
  -- a table has a counter only where it counts
  counts_only : (counted : Option ℕ) (before after : ℕ) → IsCounter counted before → IsCounter counted after → before ≢ after → IsSome counted
  counts_only None before after old new other = absurd (other (old ∙ sym new))
  counts_only (Some column) before after old new other = refl

  higher : (before after : ℕ) → before ≤ after → before ≢ after → before < after
  higher before after le other = omega (arith, le, other)

  -- what is known of a change of a table of this number
  abbrev ChangesThere : ℕ → Holding → Change → Type 0
  ChangesThere table before (Put t row) = (t ≡ table) × (has_row before.rows row ≡ false)
  ChangesThere table before (Delete t key) = (t ≡ table) × (has_key (key_columns schema table) before.rows key ≡ true)
  ChangesThere table before (Count t counter) = (t ≡ table) × IsSome (counted_of (def_in schema table).columns) × (before.counter < counter)

  of_one : (table : ℕ) (before after : Holding) → IsCounter (counted_of (def_in schema table).columns) before.counter → IsCounter (counted_of (def_in schema table).columns) after.counter → before.counter ≤ after.counter → (c : Change) → IsNetOf schema table before after c → ChangesThere table before c
  of_one table before after old new le (Put t row) net = (net.0, row_lacking before.rows row net.2)
  of_one table before after old new le (Delete t key) net = (net.0, key_held (key_columns schema table) before.rows key net.1.0 net.1.1 net.1.2)
  of_one table before after old new le (Count t counter) net =
      (net.0, counts_only (counted_of (def_in schema table).columns) before.counter after.counter old new net.2, subst (λ (n : ℕ). before.counter < n) (sym net.1) (higher before.counter after.counter le net.2))

  -- by the number of the table, where the first has this number
  abbrev ChangesOne : ℕ → List Holding → Change → Type 0
  ChangesOne first befores c = (k : ℕ) × ChangesThere (first + k) (get_or befores k no_holding) c

  of_all : (first : ℕ) (defs : List TableDef) (befores afters : List Holding) → ((k : ℕ) → k < length defs → def_in schema (first + k) ≡ get_or defs k no_table) → AllZip AreValidRows defs (map placed befores) → AllZip AreValidRows defs (map placed afters) → NoneLower befores afters → (c : Change) → Contains (changes_from schema first befores afters) c → ChangesOne first befores c
  of_all first defs [] afters at old new lower c inside = absurd (no_member c inside)
  of_all first defs (b ∷ xs) [] at old new lower c inside = absurd (no_member c inside)
  of_all first [] (b ∷ xs) (a ∷ ys) at old new lower c inside = absurd old
  of_all first (d ∷ ds) (b ∷ xs) (a ∷ ys) at old new lower c inside =
      elim (Contains-append_cases (table_changes schema first b a) (changes_from schema (suc first) xs ys) c inside) [
        | inl own ↦
            let def : def_in schema first ≡ d = ap (def_in schema) (omega arith) ∙ at 0 (omega arith) in
            let there = of_one first b a (subst (λ (t : TableDef). IsCounter (counted_of t.columns) b.counter) (sym def) old.0.counter) (subst (λ (t : TableDef). IsCounter (counted_of t.columns) a.counter) (sym def) new.0.counter) lower.0 c (net_of_member schema first b a c own) in
            (0, subst (λ (n : ℕ). ChangesThere n b c) (omega arith) there)
        | inr later ↦
            let rest = of_all (suc first) ds xs ys (λ k lt. ap (def_in schema) (omega arith) ∙ at (suc k) (omega (arith, lt))) old.1 new.1 lower.1 c later in
            (suc rest.0, subst (λ (n : ℕ). ChangesThere n (get_or xs rest.0 no_holding) c) (omega arith) rest.1)
      ]

none_more : (k : ℕ) → 0 + k ≡ k
none_more k = omega arith

by_number : (db : Database) (c : Change) (k : ℕ) → ChangesThere db.schema k (holding_of db k) c → IsChange db c
by_number db (Put t row) k there = subst (λ (n : ℕ). has_row (holding_of db n).rows row ≡ false) (sym there.0) there.1
by_number db (Delete t key) k there = subst (λ (n : ℕ). has_key (key_columns db.schema n) (holding_of db n).rows key ≡ true) (sym there.0) there.1
by_number db (Count t counter) k there = subst (λ (n : ℕ). IsSome (counted_of (def_in db.schema n).columns) × ((holding_of db n).counter < counter)) (sym there.0) (there.1, there.2)

applies_there : (db : Database) (c : Change) → ChangesOne db.schema 0 db.tables c → IsChange db c
applies_there db c found = by_number db c found.0 (subst (λ (n : ℕ). ChangesThere db.schema n (get_or db.tables found.0 no_holding) c) (none_more found.0) found.1)

pub net_applies : (before after : Database) → IsValidDatabase before → IsValidDatabase after → after.schema ≡ before.schema → after.bytes_max ≡ before.bytes_max → NoneLower before.tables after.tables → Applies before (changes before after)
net_applies before after old new schema most lower = record {
  each = each_member (IsChange before) (changes before after) (λ c inside. applies_there before c (of_all before.schema 0 before.schema.tables before.tables after.tables (λ k lt. ap (def_in before.schema) (none_more k)) old.tables (subst (λ (s : Schema). AllZip AreValidRows s.tables (map placed after.tables)) schema new.tables) lower c inside));
  valid = subst IsValidDatabase (sym (put_of_changes before after old new schema most)) new;
}
