use Rattle.std.proofs.Common.{◌≡◌, ◌-◌, None}
use Rattle.change_set.specs.Reading.{changes_at}
use Rattle.change_set.proofs.ChangeLoop.{with_front, last_of}
use Rattle.change_set.proofs.reading.changes_of.Given as goal

abbrev pub invariant-loop : goal.invariant-loop
invariant-loop l = with_front l.changes.items (changes_at l.form l.schema l.end (l.count - l.counter) (last_of l.changes.items) l.rest) ≡ changes_at l.form l.schema l.end l.count None l.bytes
