use Rattle.std.proofs.Common.{◌≡◌, List, length, filter, option_copied, ap, ◌∙◌, arith}
use Rattle.std.specs.List.{take_while}
use Rattle.std.proofs.lemmas.Result.{IfOk-weaker}
use Rattle.row_types.specs.declared.indexes.IndexDef.{IndexDef}
use Rattle.table_rows.specs.Entries.{Entry}
use Rattle.table_rows.specs.StoreWalks.{is_from, is_to}
use Rattle.table_rows.specs.Rows.{indexes_of}
use Rattle.table_rows.specs.Indexes.{index_columns}
use Rattle.table_rows.specs.Walks.{walk_of}
use Rattle.sql_plan.specs.Looking.{Looking}
use Rattle.sql_plan.specs.Ranges.{met_by}
use Rattle.sql_plan.proofs.FoundRows.{front_inside, front_count}
use Rattle.sql_plan.proofs.ranges.pick_between.Goals as goal

pub returns-clause-picked : goal.returns-clause-picked
returns-clause-picked c =
    let state = c.args.looker.now.state in
    let columns = c.as_slice.ensures.value ∙ c.in_ok-columns.ensures ∙ ap (λ (is : List IndexDef). index_columns is c.args.index) c.indexes.ensures.indexes in
    let front : take_while (is_to c.as_slice.result.now c.args.high.now) c.begin-walk.result
    ≡ take_while (is_to (index_columns (indexes_of state c.args.table) c.args.index) c.args.high.now) (filter (is_from (index_columns (indexes_of state c.args.table) c.args.index) c.args.low.now) (walk_of state c.args.table c.args.index))
    = λ i. take_while (is_to (columns i) c.args.high.now) (c.begin-walk.ensures.rows i) in
    IfOk-weaker c.pick.result _ _
    (λ picked is. is ∙ ap (met_by (option_copied c.args.condition)) (front ∙ front_inside state c.indexes.ensures.valid c.args.table c.requires.table c.args.index c.args.low.now c.args.high.now))
    c.pick.ensures.picked

pub returns-clause-looked : goal.returns-clause-looked
returns-clause-looked c =
    let state = c.args.looker.now.state in
    let columns = c.as_slice.ensures.value ∙ c.in_ok-columns.ensures ∙ ap (λ (is : List IndexDef). index_columns is c.args.index) c.indexes.ensures.indexes in
    let front : take_while (is_to c.as_slice.result.now c.args.high.now) c.begin-walk.result
    ≡ take_while (is_to (index_columns (indexes_of state c.args.table) c.args.index) c.args.high.now) (filter (is_from (index_columns (indexes_of state c.args.table) c.args.index) c.args.low.now) (walk_of state c.args.table c.args.index))
    = λ i. take_while (is_to (columns i) c.args.high.now) (c.begin-walk.ensures.rows i) in
    let count = ap (λ (es : List Entry). length es) front ∙ front_count state c.indexes.ensures.valid c.args.table c.requires.table c.args.index c.args.low.now c.args.high.now in
    omega (arith, c.pick.ensures.looked, count, ap (λ (l : Looking). l.looked) c.begin-walk.ensures.after)
