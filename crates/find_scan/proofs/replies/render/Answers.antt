use Rattle.std.proofs.Common.{arith}
use Rattle.table_rows.specs.Rows.{columns_of}
use Rattle.table_rows.proofs.States.{def_valid}
use Rattle.find_scan.proofs.Few.{few_numbers}
use Rattle.find_scan.proofs.replies.render.Goals as goal

pub append_reply-rendered-requires-clause-few : goal.append_reply-rendered-requires-clause-few
append_reply-rendered-requires-clause-few c =
    let columns = columns_of c.args.tables.now c.args.table in
    omega (arith, few_numbers columns c.args.columns.now c.requires.columns, (def_valid c.args.tables.now c.schema.ensures.valid c.args.table c.requires.table).columns.most)
