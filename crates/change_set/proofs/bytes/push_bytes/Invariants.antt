use Rattle.std.proofs.Common.{◌≡◌, ◌++◌, take, length}
use Rattle.std.specs.Int.{w32, to_be_bytes}
use Rattle.std.specs.List.{flat_map}
use Rattle.change_set.specs.Fitting.{AreValuesHeld}
use Rattle.change_set.specs.Payload.{change_bytes}
use Rattle.change_set.proofs.bytes.push_bytes.Given as goal

abbrev pub invariant-loop-change : goal.invariant-loop-change
invariant-loop-change l =
    (l.out.items ≡ l.fn.out.items ++ to_be_bytes w32 (length l.changes) ++ flat_map change_bytes (take l.change-index l.changes))
    × AreValuesHeld (take l.change-index l.changes)
