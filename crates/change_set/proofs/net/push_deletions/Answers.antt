use Rattle.std.proofs.Common.{◌≡◌, ◌<◌, ℕ, length}
use Rattle.row_types.specs.declared.values.Value.{Value}
use Rattle.std.specs.Prelude.{List}
use Rattle.change_set.specs.Touched.{old_seen, deletion_of}
use Rattle.change_set.proofs.Loops.{mapped_step, old_within}
use Rattle.change_set.proofs.net.push_deletions.Goals as goal

pub push_deletion-requires : goal.push_deletion-requires
push_deletion-requires c =
    old_within (λ (old : ℕ × List Value). old.0 < length c.args.tables.now.tables) old_seen c.args.olds.now c.loop-old.old-index c.old-item.result c.requires c.loop-old-test.true c.old-item.is

pub loop-old-preserved : goal.loop-old-preserved
loop-old-preserved c =
    mapped_step (deletion_of c.args.tables.now) old_seen c.args.changes.now.items c.args.olds.now c.loop-old.old-index c.old-item.result c.loop-old.changes.items c.push_deletion.new.changes.items c.loop-old-test.true c.old-item.is c.loop-old.invariant c.in_ok-push_deletion.ensures
