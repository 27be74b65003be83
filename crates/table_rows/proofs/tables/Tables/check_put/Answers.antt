use Rattle.std.proofs.Common.{sym, ◌∙◌}
use Rattle.table_rows.specs.Valid.{IsValidState}
use Rattle.table_rows.proofs.Verdicts.{fine_allows}
use Rattle.table_rows.proofs.tables.Tables.check_put.Goals as goal

pub returns-clause-fine : goal.returns-clause-fine
returns-clause-fine c fine =
    let valid : IsValidState c.args.self.now = rw (← c.self.view_is) c.self.invariant.valid in
    fine_allows c.args.self.now valid c.args.table c.args.row.now c.args.instead c.requires.row (sym c.verdict.ensures ∙ fine)
