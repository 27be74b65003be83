use Rattle.std.proofs.Common.{◌≡◌, ◌-◌, ap, subst, ◌∙◌}
use Rattle.std.proofs.lemmas.Result.{on_ok_weaker, on_err_weaker}
use Rattle.table_rows.specs.Entries.{vacancies}
use Rattle.table_rows.specs.Contents.{Contents}
use Rattle.table_rows.specs.Table.{Table, table_in, with_room}
use Rattle.table_rows.specs.Widths.{room_for}
use Rattle.table_rows.proofs.Seen.{roomy_seen, wanted_seen}
use Rattle.table_rows.proofs.one_table.OneTable.reserve.Goals as goal

pub returns-clause-ok : goal.returns-clause-ok
returns-clause-ok c =
    let s = c.self.inside.store in
    let after = c.reserve.new.self in
    on_ok_weaker c.reserve.result
    (λ slots. subst (λ (t : Table). table_in after c.self.inside.counted c.self.inside.counter ≡ with_room t (room_for c.args.n t.rows)) c.self.view_is
    (roomy_seen c.self.inside.counted c.self.inside.counter s after (c.args.n - vacancies s.slots) c.reserve.ensures.key c.reserve.ensures.orders slots ∙ ap (with_room (table_in s c.self.inside.counted c.self.inside.counter)) (wanted_seen c.self.inside.counted c.self.inside.counter s after c.args.n slots)))
    c.reserve.ensures.slots

pub returns-clause-err : goal.returns-clause-err
returns-clause-err c =
    on_err_weaker c.reserve.result (λ same. ap (λ (t : Contents). table_in t c.self.inside.counted c.self.inside.counter) same ∙ c.self.view_is) c.reserve.ensures.refused
