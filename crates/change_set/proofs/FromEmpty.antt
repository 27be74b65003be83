-- What empty tables are made of deletes nothing.
--     none_deleted      of all tables
use Rattle.std.proofs.Common.{◌≡◌, ℕ, suc, false, List, [], ◌∷◌, map, refl, inl, inr}
use Rattle.std.specs.Prelude.{Contains}
use Rattle.std.proofs.lemmas.List.Elements.{Contains-append_cases}
use Rattle.index_tree.proofs.Elements.{no_member, each_member}
use Rattle.row_types.specs.declared.tables.TableDef.{TableDef}
use Rattle.row_types.specs.declared.tables.Schema.{Schema}
use Rattle.table_rows.specs.Database.{Database, Holding, nothing_in, empty_database}
use Rattle.change_set.specs.declared.change.Change.{Change}
use Rattle.change_set.specs.declared.change.Change.TheVariants.{Put, Delete, Count}
use Rattle.change_set.specs.Forms.{deletes, DeletesNone}
use Rattle.change_set.specs.Net.{table_changes, changes_from, changes}
use Rattle.change_set.proofs.NetMembers.{IsNetOf, net_of_member}

module _ (schema : Schema) where
  keeps_all : (table : ℕ) (def : TableDef) (after : Holding) (c : Change) → IsNetOf schema table (nothing_in def) after c → deletes c ≡ false
  keeps_all table def after (Put t row) net = refl
  keeps_all table def after (Delete t key) net = absurd (no_member net.1.0 net.1.1)
  keeps_all table def after (Count t counter) net = refl

  none_from : (first : ℕ) (defs : List TableDef) (afters : List Holding) (c : Change) → Contains (changes_from schema first (map nothing_in defs) afters) c → deletes c ≡ false
  none_from first [] afters c inside = absurd (no_member c inside)
  none_from first (d ∷ ds) [] c inside = absurd (no_member c inside)
  none_from first (d ∷ ds) (a ∷ ys) c inside =
      elim (Contains-append_cases (table_changes schema first (nothing_in d) a) (changes_from schema (suc first) (map nothing_in ds) ys) c inside) [
        | inl own ↦ keeps_all first d a c (net_of_member schema first (nothing_in d) a c own)
        | inr later ↦ none_from (suc first) ds ys c later
      ]

pub none_deleted : (schema : Schema) (bytes_max : ℕ) (db : Database) → DeletesNone (changes (empty_database schema bytes_max) db)
none_deleted schema bytes_max db =
    each_member (λ (c : Change). deletes c ≡ false) (changes (empty_database schema bytes_max) db) (none_from schema 0 schema.tables db.tables)
