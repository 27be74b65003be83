-- Net changes are none exactly where nothing changed.
--     put_nothing      no change leaves the tables
--     net_of_itself      tables have no net change from themselves
--     same_when_none      where there is no net change the tables are the same
use Rattle.std.proofs.Common.{◌≡◌, ℕ, suc, true, List, [], ◌∷◌, ◌++◌, filter, refl, sym, ap, ap₂, ◌∙◌}
use Rattle.std.specs.Prelude.{Contains}
use Rattle.std.proofs.lemmas.List.{append-nil}
use Rattle.index_tree.specs.Ordered.{in_order}
use Rattle.index_tree.proofs.Cuts.{filter_all}
use Rattle.index_tree.proofs.Elements.{contains_first, each_member}
use Rattle.index_tree.proofs.InOrder.{in_order_ascending}
use Rattle.row_types.specs.declared.values.Value.{Value}
use Rattle.row_types.specs.declared.tables.Schema.{Schema}
use Rattle.table_rows.specs.Database.{Database, Holding}
use Rattle.change_set.specs.declared.change.Change.{Change}
use Rattle.change_set.specs.declared.change.Change.TheVariants.{Put, Delete, Count}
use Rattle.change_set.specs.Sets.{key_columns}
use Rattle.change_set.specs.Net.{table_changes, changes_from, changes}
use Rattle.change_set.specs.Putting.{row_cmp, holdings_put, put, IsValidDatabase}
use Rattle.change_set.proofs.NetMembers.{IsNetOf, net_of_member}
use Rattle.change_set.proofs.NetOrder.{Ascends, EachAscends, row_total}
use Rattle.change_set.proofs.Nets.{each_ascends, put_of_changes}

all_stay : {X : Type 0} (xs : List X) → filter (λ (x : X). true) xs ≡ xs
all_stay xs = filter_all (λ x. true) xs (each_member (λ x. true ≡ true) xs (λ x inside. refl))

module _ (schema : Schema) where
  rows_stay : (table : ℕ) (rows : List (List Value)) → Ascends schema table rows → in_order (row_cmp (key_columns schema table)) (filter (λ (row : List Value). true) rows ++ []) ≡ rows
  rows_stay table rows ascends =
      let cmp = row_cmp (key_columns schema table) in
      ap (in_order cmp) (append-nil (filter (λ (row : List Value). true) rows) ∙ all_stay rows) ∙ in_order_ascending cmp (row_total (key_columns schema table)) rows ascends

  holdings_stay : (first : ℕ) (holdings : List Holding) → EachAscends schema first holdings → holdings_put schema [] first holdings ≡ holdings
  holdings_stay first [] ascends = refl
  holdings_stay first (h ∷ hs) ascends =
      ap₂ (λ (rows : List (List Value)) (rest : List Holding). record { rows = rows; counter = h.counter } ∷ rest) (rows_stay first h.rows ascends.0) (holdings_stay (suc first) hs ascends.1)

  none_of_itself : (table : ℕ) (h : Holding) (c : Change) → IsNetOf schema table h h c → ⊥
  none_of_itself table h (Put t row) net = net.2 net.1
  none_of_itself table h (Delete t key) net = net.2 net.1.0 net.1.1 net.1.2
  none_of_itself table h (Count t counter) net = net.2 refl

  empty_when_none : (xs : List Change) → ((c : Change) → Contains xs c → ⊥) → xs ≡ []
  empty_when_none [] none = refl
  empty_when_none (x ∷ xs) none = absurd (none x (contains_first x xs))

  none_from : (first : ℕ) (hs : List Holding) → changes_from schema first hs hs ≡ []
  none_from first [] = refl
  none_from first (h ∷ hs) =
      ap₂ (λ (own rest : List Change). own ++ rest)
      (empty_when_none (table_changes schema first h h) (λ c inside. none_of_itself first h c (net_of_member schema first h h c inside)))
      (none_from (suc first) hs)

pub put_nothing : (db : Database) → IsValidDatabase db → put db [] ≡ db
put_nothing db valid = ap (λ (hs : List Holding). record { schema = db.schema; bytes_max = db.bytes_max; tables = hs }) (holdings_stay db.schema 0 db.tables (each_ascends db valid))

pub net_of_itself : (db : Database) → changes db db ≡ []
net_of_itself db = none_from db.schema 0 db.tables

pub same_when_none : (before after : Database) → IsValidDatabase before → IsValidDatabase after → after.schema ≡ before.schema → after.bytes_max ≡ before.bytes_max → changes before after ≡ [] → after ≡ before
same_when_none before after old new schema most none = sym (put_of_changes before after old new schema most) ∙ ap (put before) none ∙ put_nothing before old
