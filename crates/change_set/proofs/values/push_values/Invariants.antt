use Rattle.std.proofs.Common.{◌≡◌, ◌++◌, take}
use Rattle.std.specs.List.{flat_map, AllByRecursion}
use Rattle.row_types.specs.Valid.{IsHeld}
use Rattle.change_set.specs.Payload.{value_bytes}
use Rattle.change_set.proofs.values.push_values.Given as goal

abbrev pub invariant-loop-value : goal.invariant-loop-value
invariant-loop-value l =
    (l.out.items ≡ l.fn.out.items ++ flat_map value_bytes (take l.value-index l.values))
    × AllByRecursion IsHeld (take l.value-index l.values)
