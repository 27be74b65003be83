use Rattle.std.proofs.Common.{◌≡◌, ℤ, List, Option, Ok, length, take, refl, ap, sym, subst, ◌∙◌}
use Rattle.std.proofs.Math.Seq.{take-append_seam}
use Rattle.row_types.specs.declared.columns.Column.{Column}
use Rattle.row_types.specs.declared.tables.Schema.{Schema}
use Rattle.table_rows.specs.declared.undo.Undo.{Undo}
use Rattle.table_rows.specs.Rows.{columns_of, counted_at, counter_of}
use Rattle.table_rows.specs.Widths.{IsWidened}
use Rattle.table_rows.specs.GoingBack.{CanGoBack}
use Rattle.table_rows.proofs.Wider.{slots_widened}
use Rattle.table_rows.proofs.Roomier.{widened_roomier}
use Rattle.table_rows.proofs.GoingBack.{noted_by, goes_none, goes_noted}
use Rattle.row_insert.specs.Draw.{coming_to}
use Rattle.row_insert.specs.Insert.{new_row, answer_to, insert_answer, IsPut}
use Rattle.row_insert.specs.declared.inserts.Inserted.TheVariants as answers
use Rattle.row_insert.proofs.Columns.{read_columns}
use Rattle.row_insert.proofs.Drawn.{kinds_long, coming_kinds}
use Rattle.table_rows.proofs.States.{def_valid}
use Rattle.row_insert.proofs.Inserting.{insert_within, insert_in_schema, insert_kinds, put_is}
use Rattle.row_insert.proofs.inserts.insert.Goals as goal

pub refusal_of-requires-clause-table : goal.refusal_of-requires-clause-table
refusal_of-requires-clause-table c = insert_within c.args.tables.now c.schema.ensures.valid c.args.schema.now c.requires.schema c.args.spec.now c.requires.spec

pub reserve-requires : goal.reserve-requires
reserve-requires c = insert_within c.args.tables.now c.schema.ensures.valid c.args.schema.now c.requires.schema c.args.spec.now c.requires.spec

pub coming_to-requires-clause-table : goal.coming_to-requires-clause-table
coming_to-requires-clause-table c = insert_within c.args.tables.now c.schema.ensures.valid c.args.schema.now c.requires.schema c.args.spec.now c.requires.spec

pub coming_to-requires-clause-row : goal.coming_to-requires-clause-row
coming_to-requires-clause-row c =
    let state = c.args.tables.now in
    let table = c.args.spec.now.table in
    let read = c.as_slice.ensures ∙ ap (λ (s : Schema). s.tables) c.requires.schema in
    let inside = insert_in_schema state c.schema.ensures.valid c.args.schema.now c.requires.schema c.args.spec.now c.requires.spec in
    let columns = read_columns c.as_slice.result.now state table c.index-as_slice-spec.result c.as_slice-columns.result.now read inside c.as_slice-columns.ensures in
    let row : c.in_ok-row.row ≡ new_row (columns_of state table) c.args.spec.now = c.in_ok-row.ensures ∙ ap (λ (cs : List Column). new_row cs c.args.spec.now) columns in
    let kinds = insert_kinds state c.schema.ensures.valid c.args.schema.now c.requires.schema c.args.spec.now c.requires.spec in
    ap length row ∙ sym (kinds_long (columns_of state table) (new_row (columns_of state table) c.args.spec.now) kinds)

pub refusal_of-requires-clause-row : goal.refusal_of-requires-clause-row
refusal_of-requires-clause-row c =
    let state = c.args.tables.now in
    let table = c.args.spec.now.table in
    let read = c.as_slice.ensures ∙ ap (λ (s : Schema). s.tables) c.requires.schema in
    let inside = insert_in_schema state c.schema.ensures.valid c.args.schema.now c.requires.schema c.args.spec.now c.requires.spec in
    let columns = read_columns c.as_slice.result.now state table c.index-as_slice-spec.result c.as_slice-columns.result.now read inside c.as_slice-columns.ensures in
    let row : c.in_ok-row.row ≡ new_row (columns_of state table) c.args.spec.now = c.in_ok-row.ensures ∙ ap (λ (cs : List Column). new_row cs c.args.spec.now) columns in
    let kinds = insert_kinds state c.schema.ensures.valid c.args.schema.now c.requires.schema c.args.spec.now c.requires.spec in
    let within = insert_within state c.schema.ensures.valid c.args.schema.now c.requires.schema c.args.spec.now c.requires.spec in
    let comes : coming_to state table (new_row (columns_of state table) c.args.spec.now) ≡ Ok c.in-Ok.coming = ap (coming_to state table) (sym row) ∙ sym c.coming_to.ensures ∙ c.in-Ok.is in
    coming_kinds (columns_of state table) (def_valid state c.schema.ensures.valid table within).columns.each (new_row (columns_of state table) c.args.spec.now) kinds (counter_of state table) c.in-Ok.coming (counted_at state table) refl comes

pub returns-in-Some-clause-answer : goal.returns-in-Some-clause-answer
returns-in-Some-clause-answer c =
    let state = c.args.tables.now in
    let table = c.args.spec.now.table in
    let read = c.as_slice.ensures ∙ ap (λ (s : Schema). s.tables) c.requires.schema in
    let inside = insert_in_schema state c.schema.ensures.valid c.args.schema.now c.requires.schema c.args.spec.now c.requires.spec in
    let columns = read_columns c.as_slice.result.now state table c.index-as_slice-spec.result c.as_slice-columns.result.now read inside c.as_slice-columns.ensures in
    let row : c.in_ok-row.row ≡ new_row (columns_of state table) c.args.spec.now = c.in_ok-row.ensures ∙ ap (λ (cs : List Column). new_row cs c.args.spec.now) columns in
    let comes : coming_to state table (new_row (columns_of state table) c.args.spec.now) ≡ Ok c.in-Ok.coming = ap (coming_to state table) (sym row) ∙ sym c.coming_to.ensures ∙ c.in-Ok.is in
    let found = sym c.in-Some.is ∙ c.refusal_of.ensures.refusal in
    ap answers.Refused c.number-in-Some.ensures ∙ ap (answer_to c.in-Ok.coming.number) found ∙ sym (ap (insert_answer state table) comes)

pub returns-clause-answer : goal.returns-clause-answer
returns-clause-answer c =
    let state = c.args.tables.now in
    let table = c.args.spec.now.table in
    let read = c.as_slice.ensures ∙ ap (λ (s : Schema). s.tables) c.requires.schema in
    let inside = insert_in_schema state c.schema.ensures.valid c.args.schema.now c.requires.schema c.args.spec.now c.requires.spec in
    let columns = read_columns c.as_slice.result.now state table c.index-as_slice-spec.result c.as_slice-columns.result.now read inside c.as_slice-columns.ensures in
    let row : c.in_ok-row.row ≡ new_row (columns_of state table) c.args.spec.now = c.in_ok-row.ensures ∙ ap (λ (cs : List Column). new_row cs c.args.spec.now) columns in
    let comes : coming_to state table (new_row (columns_of state table) c.args.spec.now) ≡ Ok c.in-Ok.coming = ap (coming_to state table) (sym row) ∙ sym c.coming_to.ensures ∙ c.in-Ok.is in
    let found = sym c.in_default.is ∙ c.refusal_of.ensures.refusal in
    ap (answer_to c.in-Ok.coming.number) found ∙ sym (ap (insert_answer state table) comes)

pub returns-clause-put : goal.returns-clause-put
returns-clause-put c number done =
    let state = c.args.tables.now in
    let table = c.args.spec.now.table in
    let read = c.as_slice.ensures ∙ ap (λ (s : Schema). s.tables) c.requires.schema in
    let inside = insert_in_schema state c.schema.ensures.valid c.args.schema.now c.requires.schema c.args.spec.now c.requires.spec in
    let columns = read_columns c.as_slice.result.now state table c.index-as_slice-spec.result c.as_slice-columns.result.now read inside c.as_slice-columns.ensures in
    let row : c.in_ok-row.row ≡ new_row (columns_of state table) c.args.spec.now = c.in_ok-row.ensures ∙ ap (λ (cs : List Column). new_row cs c.args.spec.now) columns in
    let comes : coming_to state table (new_row (columns_of state table) c.args.spec.now) ≡ Ok c.in-Ok.coming = ap (coming_to state table) (sym row) ∙ sym c.coming_to.ensures ∙ c.in-Ok.is in
    let within = insert_within state c.schema.ensures.valid c.args.schema.now c.requires.schema c.args.spec.now c.requires.spec in
    let same : c.in-Ok.coming.number ≡ number = cc in
    subst (λ (n : Option ℤ). IsPut table (new_row (columns_of state table) c.args.spec.now) n state c.put.new.self c.args.undo.now.entries c.put.new.undo.entries) same
    (put_is table (new_row (columns_of state table) c.args.spec.now) c.in-Ok.coming.row c.in-Ok.coming.number state c.reserve.new.self c.put.new.self c.args.undo.now.entries c.reserve.new.undo.entries c.put.new.undo.entries
    within comes c.in_ok-reserve.ensures.ok c.in_ok-reserve.ensures.entries c.put.ensures.put)

pub returns-clause-unchanged : goal.returns-clause-unchanged
returns-clause-unchanged c never = absurd (never c.in-Ok.coming.number refl)

pub returns-in-Err-clause-back : goal.returns-in-Err-clause-back
returns-in-Err-clause-back c = goes_none c.args.tables.now c.args.undo.now.entries

pub returns-in_err-row-clause-back : goal.returns-in_err-row-clause-back
returns-in_err-row-clause-back c = goes_none c.args.tables.now c.args.undo.now.entries

pub returns-in-Some-clause-back : goal.returns-in-Some-clause-back
returns-in-Some-clause-back c = goes_none c.args.tables.now c.args.undo.now.entries

pub returns-in_err-reserve-clause-back : goal.returns-in_err-reserve-clause-back
returns-in_err-reserve-clause-back c =
    rw (c.in_err-reserve.ensures.err, c.in_err-reserve.ensures.entries) (goes_none c.args.tables.now c.args.undo.now.entries)

pub returns-clause-back : goal.returns-clause-back
returns-clause-back c =
    let state = c.args.tables.now in
    let table = c.args.spec.now.table in
    let within = insert_within state c.schema.ensures.valid c.args.schema.now c.requires.schema c.args.spec.now c.requires.spec in
    let wide = subst (IsWidened table state) (sym c.in_ok-reserve.ensures.ok) (slots_widened state table within 1) in
    let undos = c.reserve.new.undo.entries in
    let pushed = c.put.ensures.put.3 in
    let noted = noted_by c.reserve.new.self c.put.new.self undos c.put.new.undo.entries (ap (take (length undos)) pushed ∙ take-append_seam undos _) c.put.ensures.back in
    subst (λ (us : List Undo). CanGoBack state c.put.new.self us c.put.new.undo.entries) c.in_ok-reserve.ensures.entries
    (goes_noted state c.reserve.new.self c.put.new.self undos c.put.new.undo.entries (widened_roomier table state c.reserve.new.self wide) noted)
