use Rattle.std.proofs.Common.{◌≡◌, length, sym, subst, ◌∙◌}
use Rattle.table_rows.specs.Table.{Table}
use Rattle.table_rows.proofs.Kept.{kept_count}
use Rattle.table_rows.proofs.one_table.OneTable.count.Goals as goal

pub returns : goal.returns
returns c =
    let s = c.self.inside.store in
    subst (λ (t : Table). c.count.result ≡ length t.rows.entries) c.self.view_is (c.count.ensures.count ∙ sym (kept_count s.key s.slots))
