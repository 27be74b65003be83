use Rattle.std.proofs.Common.{None, ap, ◌∙◌}
use Rattle.change_set.specs.Reading.{changes_at}
use Rattle.change_set.proofs.ChangeLoop.{last_of, last_pushed, changes_go_on, changes_end, changes_done}
use Rattle.change_set.proofs.reading.changes_of.Goals as goal

pub loop-preserved : goal.loop-preserved
loop-preserved c =
    let schema = c.args.schema.now in
    let front = c.loop.changes.items in
    let change = c.in-Ok.change in
    let total = changes_at c.args.form schema c.args.end c.args.count None c.args.bytes.now in
    let more = changes_go_on c.args.form schema c.args.end front c.args.count c.loop.counter (last_of front) c.loop.rest.now change c.in-Ok.after.now total c.loop-test.true (rw (← (c.last.ensures.value ∙ ap last_of c.deref.ensures.value)) c.in-Ok.ensures) c.loop.invariant in
    rw (c.in_ok-push-in-Ok.ensures.items, last_pushed front change) more

pub returns-in-Err : goal.returns-in-Err
returns-in-Err c =
    let schema = c.args.schema.now in
    let front = c.loop.changes.items in
    let total = changes_at c.args.form schema c.args.end c.args.count None c.args.bytes.now in
    rw (c.at.ensures, c.saturating_sub.ensures) (changes_end c.args.form schema c.args.end c.in-Err.fault front c.args.count c.loop.counter (last_of front) c.loop.rest.now total c.loop-test.true (rw (← (c.last.ensures.value ∙ ap last_of c.deref.ensures.value)) c.in-Err.ensures) c.loop.invariant)

pub returns : goal.returns
returns c = changes_done c.args.form c.args.schema.now c.args.end c.loop.changes.items c.args.count c.loop.counter (last_of c.loop.changes.items) c.loop.rest.now (changes_at c.args.form c.args.schema.now c.args.end c.args.count None c.args.bytes.now) c.loop-test.false c.loop.invariant
