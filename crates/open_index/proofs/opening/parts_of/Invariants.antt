use Rattle.std.proofs.Common.{◌≡◌, map, take}
use Rattle.open_index.specs.Open.{part_of}
use Rattle.open_index.proofs.opening.parts_of.Given as goal

abbrev pub invariant-loop-number : goal.invariant-loop-number
invariant-loop-number l = l.parts.items ≡ map (part_of l.columns) (take l.number-index l.numbers)
