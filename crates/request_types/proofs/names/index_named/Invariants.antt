use Rattle.std.proofs.Common.{◌≡◌, drop}
use Rattle.std.specs.List.{position_from}
use Rattle.std.specs.Str.{bytes_eq}
use Rattle.row_types.specs.declared.indexes.IndexDef.{IndexDef}
use Rattle.request_types.specs.Names.{index_named}
use Rattle.request_types.proofs.names.index_named.Given as goal

abbrev pub invariant-loop-number : goal.invariant-loop-number
invariant-loop-number l = position_from (λ (i : IndexDef). bytes_eq i.name l.name) l.number (drop l.number l.indexes) ≡ index_named l.indexes l.name
