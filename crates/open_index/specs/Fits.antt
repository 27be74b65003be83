-- Which open ids, and which answers to a line, fit a schema.
use Rattle.std.specs.Prelude.{◌≡◌, ℕ, List, slice_get, IsSomeAnd, ⊤, nat_eq, true}
use Rattle.std.specs.List.{All}
use Rattle.std.specs.Map.{values_of}
use Rattle.row_types.specs.declared.columns.Column.{Column}
use Rattle.row_types.specs.declared.tables.TableDef.{TableDef}
use Rattle.row_types.specs.declared.tables.Schema.{Schema}
use Rattle.row_types.specs.Valid.{are_distinct}
use Rattle.request_types.specs.Fits.{RequestFits}
use Rattle.open_index.specs.declared.handles.Handle.{Handle}
use Rattle.open_index.specs.declared.handles.OpenColumn.{OpenColumn}
use Rattle.open_index.specs.declared.requests.Resolved.{Resolved}
use Rattle.open_index.specs.declared.requests.Resolved.TheVariants.{Reply, Opened, Authed, Ask}
use Rattle.open_index.specs.Find.{numbers}

-- A column of the table, by its number, and of the column's kind.
abbrev pub IsColumnOf : List Column → OpenColumn → Type 0
IsColumnOf columns c = IsSomeAnd (slice_get columns c.number) (λ d. d.kind ≡ c.kind)

-- An id stands for an index of its table and all the index's columns, and for columns of both
-- lists. Those of the first list are there once each.
pub record HandleFitsTable (table : TableDef) (h : Handle) : Type 0 where
  pub index : IsSomeAnd (slice_get table.indexes h.index) (λ i. numbers h.parts ≡ i.parts)
  pub parts : All (IsColumnOf table.columns) h.parts
  pub columns : All (IsColumnOf table.columns) h.columns
  pub once : are_distinct nat_eq (numbers h.columns) ≡ true
  pub filter_columns : All (IsColumnOf table.columns) h.filter_columns

-- What an id stands for fits a schema that has its table.
abbrev pub HandleFits : Schema → Handle → Type 0
HandleFits schema h = IsSomeAnd (slice_get schema.tables h.table) (λ t. HandleFitsTable t h)

-- What each open id stands for fits the schema.
abbrev pub HandlesFit : Schema → List (ℕ × Handle) → Type 0
HandlesFit schema handles = All (HandleFits schema) (values_of handles)

-- What becomes of a line fits a schema where it asks for what does.
abbrev pub ResolvedFits : Schema → Resolved → Type 0
ResolvedFits schema (Ask request) = RequestFits schema request
ResolvedFits schema (Reply code) = ⊤
ResolvedFits schema Opened = ⊤
ResolvedFits schema Authed = ⊤
