use Rattle.std.proofs.Common.{◌≡◌, subst, ◌∙◌}
use Rattle.std.specs.Option.{option_copied}
use Rattle.table_rows.specs.Slots.{row_if}
use Rattle.table_rows.specs.Table.{Table}
use Rattle.table_rows.proofs.Kept.{row_if_there}
use Rattle.table_rows.proofs.one_table.OneTable.get.Goals as goal

pub returns : goal.returns
returns c =
    let s = c.self.inside.store in
    subst (λ (t : Table). option_copied c.get.result ≡ row_if c.args.slot t.rows.entries) c.self.view_is (c.get.ensures ∙ row_if_there s.key s.slots c.args.slot)
