-- There is no net change exactly where nothing changed.
--     net_of_itself      tables have no net change from themselves
--     same_when_none      where there is no net change the tables are the same
use Rattle.std.proofs.Common.{◌≡◌, ℕ, suc, List, [], ◌∷◌, ◌++◌, refl, sym, ap, ap₂, ◌∙◌}
use Rattle.std.specs.Prelude.{Contains}
use Rattle.index_tree.proofs.Elements.{contains_first}
use Rattle.row_types.specs.declared.tables.Schema.{Schema}
use Rattle.table_rows.specs.Database.{Database, Holding}
use Rattle.change_set.specs.declared.change.Change.{Change}
use Rattle.change_set.specs.declared.change.Change.TheVariants.{Put, Delete, Count}
use Rattle.change_set.specs.Net.{table_changes, changes_from, changes}
use Rattle.change_set.specs.Putting.{put, IsValidDatabase}
use Rattle.change_set.proofs.NetMembers.{IsNetOf, net_of_member}
use Rattle.change_set.proofs.Nets.{put_of_changes}

module _ (schema : Schema) where
  none_of_itself : (table : ℕ) (h : Holding) (c : Change) → IsNetOf schema table h h c → ⊥
  none_of_itself table h (Put t row) net = net.2 net.1
  none_of_itself table h (Delete t key) net = net.2 net.1.0 net.1.1 net.1.2
  none_of_itself table h (Count t counter) net = net.2 refl

  empty_when_none : (xs : List Change) → ((c : Change) → Contains xs c → ⊥) → xs ≡ []
  empty_when_none [] none = refl
  empty_when_none (x ∷ xs) none = absurd (none x (contains_first x xs))

  none_from : (first : ℕ) (hs : List Holding) → changes_from schema first hs hs ≡ []
  none_from first [] = refl
  none_from first (h ∷ hs) =
      ap₂ (λ (own rest : List Change). own ++ rest)
      (empty_when_none (table_changes schema first h h) (λ c inside. none_of_itself first h c (net_of_member schema first h h c inside)))
      (none_from (suc first) hs)

pub net_of_itself : (db : Database) → changes db db ≡ []
net_of_itself db = none_from db.schema 0 db.tables

pub same_when_none : (before after : Database) → IsValidDatabase before → IsValidDatabase after → after.schema ≡ before.schema → after.bytes_max ≡ before.bytes_max → changes before after ≡ [] → after ≡ before
same_when_none before after old new schema most none =
    sym (put_of_changes before after old new schema most) ∙ ap (put before) (none ∙ sym (net_of_itself before)) ∙ put_of_changes before before old old refl refl
