use Rattle.std.proofs.Common.{◌++◌, length, ap, ◌∙◌, refl, append_assoc}
use Rattle.std.specs.Int.{w32, to_be_bytes}
use Rattle.std.specs.List.{flat_map}
use Rattle.std.proofs.lemmas.Result.{on_ok_weaker}
use Rattle.row_types.specs.declared.tables.Schema.{Schema}
use Rattle.table_rows.specs.Database.{database_of}
use Rattle.table_rows.specs.Valid.{AreValidRows}
use Rattle.table_rows.proofs.States.{zip_long}
use Rattle.change_set.specs.Payload.{change_bytes}
use Rattle.change_set.proofs.ValidAlone.{database_valid}
use Rattle.check_point.specs.Written.{made_from}
use Rattle.check_point.proofs.MadeOfEmpty.{made_few, made_makes, area_short, area_is}
use Rattle.check_point.proofs.writing.push_tables.Goals as goal

pub count_changes-count-requires-clause-all : goal.count_changes-count-requires-clause-all
count_changes-count-requires-clause-all c =
    let state = c.args.tables.now in
    ap length c.as_slice.ensures ∙ ap (λ (schema : Schema). length schema.tables) c.schema.ensures.schema ∙ zip_long AreValidRows state.schema.tables state.tables c.schema.ensures.valid.tables

pub count_changes-count-requires-clause-few : goal.count_changes-count-requires-clause-few
count_changes-count-requires-clause-few c = made_few c.args.tables.now c.schema.ensures.valid

pub returns-in_err-extend_from_slice-clause-short : goal.returns-in_err-extend_from_slice-clause-short
returns-in_err-extend_from_slice-clause-short c = area_short (database_of c.args.tables.now) (database_valid c.args.tables.now c.schema.ensures.valid)

pub push_changes-requires-clause-all : goal.push_changes-requires-clause-all
push_changes-requires-clause-all c =
    let state = c.args.tables.now in
    ap length c.as_slice.ensures ∙ ap (λ (schema : Schema). length schema.tables) c.schema.ensures.schema ∙ zip_long AreValidRows state.schema.tables state.tables c.schema.ensures.valid.tables

pub returns-clause-bytes : goal.returns-clause-bytes
returns-clause-bytes c =
    let state = c.args.tables.now in
    let old = c.args.out.now.items in
    let count = c.count_changes-count.result in
    let bytes = flat_map change_bytes (made_from 0 state.schema.tables state.tables) in
    on_ok_weaker c.push_changes.result
    (λ pushed. pushed ∙ ap (λ x. x ++ bytes) (c.in_ok-extend_from_slice.ensures.items ∙ ap (λ x. old ++ x) c.to_be_bytes.ensures) ∙ append_assoc old (to_be_bytes w32 count) bytes ∙ ap (λ x. old ++ x) (area_is state count bytes c.schema.ensures.valid c.count_changes-count.ensures refl))
    c.push_changes.ensures.bytes

pub returns-clause-short : goal.returns-clause-short
returns-clause-short c = area_short (database_of c.args.tables.now) (database_valid c.args.tables.now c.schema.ensures.valid)

pub returns-clause-makes : goal.returns-clause-makes
returns-clause-makes c = on_ok_weaker c.push_changes.result (λ held. made_makes c.args.tables.now c.schema.ensures.valid held) c.push_changes.ensures.held
