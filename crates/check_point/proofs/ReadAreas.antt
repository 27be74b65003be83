-- What is read of an area.
--     empty_holds      new tables hold nothing
--     applied_makes, refused_none      a set that applies to them, and one that doesn't
use Rattle.std.proofs.Common.{◌≡◌, ℕ, List, [], ◌∷◌, map, refl, sym, ap, subst, ◌∙◌}
use Rattle.std.specs.Prelude.{Ok}
use Rattle.row_types.specs.declared.tables.TableDef.{TableDef}
use Rattle.row_types.specs.declared.tables.Schema.{Schema}
use Rattle.table_rows.specs.Database.{Database, Holding, holding_in, nothing_in, database_of, empty_database}
use Rattle.table_rows.specs.Rows.{State}
use Rattle.table_rows.specs.Widths.{empty_rows, empty_state}
use Rattle.change_set.specs.declared.change.Change.{Change}
use Rattle.change_set.specs.Putting.{put, Applies}
use Rattle.change_set.specs.Reading.{area_set}
use Rattle.check_point.specs.Area.{Makes, MakesNone}

holdings_empty : (defs : List TableDef) → map holding_in (map empty_rows defs) ≡ map nothing_in defs
holdings_empty [] = refl
holdings_empty (d ∷ ds) = ap (λ (rest : List Holding). nothing_in d ∷ rest) (holdings_empty ds)

pub empty_holds : (schema : Schema) (bytes_max : ℕ) → database_of (empty_state schema bytes_max) ≡ empty_database schema bytes_max
empty_holds schema bytes_max = ap (λ (tables : List Holding). record { schema = schema; bytes_max = bytes_max; tables = tables }) (holdings_empty schema.tables)

module _ (schema : Schema) (bytes_max : ℕ) (area : List ℕ) (set : List Change) (old : State) (new : old ≡ empty_state schema bytes_max) (read : area_set schema area ≡ Ok set) where
  was_empty : database_of old ≡ empty_database schema bytes_max
  was_empty = ap database_of new ∙ empty_holds schema bytes_max

  pub applied_makes : (after : State) → Applies (database_of old) set → database_of after ≡ put (database_of old) set → Makes schema bytes_max area (database_of after)
  applied_makes after applies is = record {
    set = set;
    read = read;
    applies = subst (λ (db : Database). Applies db set) was_empty applies;
    is = is ∙ ap (λ (db : Database). put db set) was_empty;
  }

  pub refused_none : (Applies (database_of old) set → ⊥) → MakesNone schema bytes_max area
  refused_none refused = record {
    set = set;
    read = read;
    applies = λ applies. refused (subst (λ (db : Database). Applies db set) (sym was_empty) applies);
  }
