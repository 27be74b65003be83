use Rattle.std.proofs.Common.{◌++◌, List, map, ap, sym, ◌∙◌}
use Rattle.std.proofs.lemmas.Result.{on_ok_weaker}
use Rattle.row_types.specs.declared.values.Value.{Value}
use Rattle.table_rows.specs.Entries.{Entry}
use Rattle.replay_turns.specs.Shown.{rows_lines}
use Rattle.replay_turns.proofs.Shows.{rows_there}
use Rattle.replay_turns.proofs.showing.push_rows.Goals as goal

pub returns : goal.returns
returns c =
    let rows = ap (λ (entries : List Entry). map (λ (entry : Entry). entry.0) entries) c.rows.ensures ∙ sym (rows_there c.args.tables.now c.args.table c.requires) in
    on_ok_weaker c.push_walk.result (λ pushed. pushed ∙ ap (λ (shown : List (List Value)). c.args.text.now.items ++ rows_lines shown) rows) c.push_walk.ensures
