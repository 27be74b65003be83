use Rattle.std.proofs.Common.{◌<◌, length, subst, sym}
use Rattle.table_rows.specs.Rows.{State}
use Rattle.table_rows.proofs.Inner.{kept_at}
use Rattle.table_rows.proofs.tables.Tables.store.Goals as goal

pub returns : goal.returns
returns c =
    let within = subst (λ (s : State). c.args.table < length s.tables) (sym c.self.view_is) c.requires in
    rw (← c.self.view_is) (kept_at c.self.inside c.self.invariant c.args.table within c.index.result.now c.index.ensures)
