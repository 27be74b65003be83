use Rattle.std.proofs.Common.{ℕ, ◌++◌, List, ap, sym, ◌∙◌}
use Rattle.row_types.specs.declared.tables.TableDef.{TableDef}
use Rattle.table_rows.specs.declared.bound.Bound.TheVariants.{From}
use Rattle.table_rows.specs.Entries.{Entry, has_key}
use Rattle.table_rows.specs.Rows.{indexes_of, entries_of}
use Rattle.table_rows.specs.Indexes.{primary_of}
use Rattle.table_rows.specs.Walks.{walk_of, walked, first_keyed, slot_of}
use Rattle.table_rows.proofs.KeyedRows.{keyed_found, keyed_live}
use Rattle.table_rows.proofs.PrimaryWalk.{primary_walk}
use Rattle.table_rows.proofs.States.{rows_valid}
use Rattle.table_rows.proofs.tables.Tables.find_key.Goals as goal

pub returns-clause-keyed : goal.returns-clause-keyed
returns-clause-keyed c =
    let state = c.args.self.now in
    let table = c.args.table in
    let key = c.args.key.now in
    let index = c.primary-index.result in
    let primary = primary_of (indexes_of state table) in
    let valid = c.primary-index.ensures.valid in
    let parts = c.primary_of-parts.ensures ∙ ap primary_of (c.as_slice.ensures ∙ ap (λ (d : TableDef). d.indexes) c.def.ensures.def) in
    let walk = c.walk.ensures
    ∙ ap (λ (ps : List ℕ). walked From (ps ++ primary) key (walk_of state table index)) c.primary-index.ensures.parts
    ∙ ap (walked From (primary ++ primary) key) (primary_walk state valid table c.requires.table index c.primary-index.ensures.parts) in
    c.first_keyed.ensures
    ∙ ap (λ (ps : List ℕ). slot_of (first_keyed ps key c.walk.result)) parts
    ∙ ap (λ (es : List Entry). slot_of (first_keyed primary key es)) walk
    ∙ ap slot_of (sym (keyed_found primary primary key c.requires.key (entries_of state table) (rows_valid state valid table c.requires.table).ascending))

pub returns-clause-live : goal.returns-clause-live
returns-clause-live c =
    let entries = entries_of c.args.self.now c.args.table in
    let primary = primary_of (indexes_of c.args.self.now c.args.table) in
    rw (returns-clause-keyed c) (keyed_live (λ (e : Entry). has_key primary c.args.key.now e.0) entries)
