use Rattle.std.proofs.Common.{◌≡◌, drop, map}
use Rattle.open_index.specs.Open.{columns_onto}
use Rattle.open_index.proofs.opening.columns_onto.Given as goal

abbrev pub invariant-loop-name : goal.invariant-loop-name
invariant-loop-name l = columns_onto l.columns l.found.items (map (λ name. name.now) (drop l.name-index l.names)) ≡ columns_onto l.columns l.fn.found.items (map (λ name. name.now) l.names)
