use Rattle.table_rows.specs.Valid.{IsValidState}
use Rattle.table_rows.proofs.States.{def_valid, rows_valid}
use Rattle.table_rows.proofs.tables.Tables.def.Goals as goal

pub returns-clause-valid : goal.returns-clause-valid
returns-clause-valid c =
    let valid : IsValidState c.args.self.now = rw (← c.self.view_is) c.self.invariant.valid in
    def_valid c.args.self.now valid c.args.table c.requires

pub returns-clause-rows : goal.returns-clause-rows
returns-clause-rows c =
    let valid : IsValidState c.args.self.now = rw (← c.self.view_is) c.self.invariant.valid in
    rows_valid c.args.self.now valid c.args.table c.requires
