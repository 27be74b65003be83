use Rattle.std.proofs.Common.{◌∙◌, ap}
use Rattle.table_rows.specs.Database.{database_of}
use Rattle.batch_answers.proofs.Empty.{empty_is}
use Rattle.batch_answers.proofs.tables_alone.TablesAlone.new.Goals as goal

pub returns : goal.returns
returns c = ap database_of c.in_ok-new.ensures ∙ empty_is c.args.schema.now c.args.bytes_max
