use Rattle.std.proofs.Common.{◌≡◌, length, map, drop, set}
use Rattle.row_types.specs.declared.values.Value.{Value}
use Rattle.find_scan.specs.Select.{found, once}
use Rattle.find_scan.specs.Gathering.{gives, fresh}
use Rattle.find_scan.proofs.listed.scan_each.Given as goal

-- the keys that are left give what all of them give, and the key differs from the find's in the one place alone
abbrev pub invariant-loop-value : goal.invariant-loop-value
invariant-loop-value l = record {
  given : gives l.spec.filters l.selection (found l.tables l.spec (map (λ v. set l.spec.key l.list.part v) (fresh l.seen.keys (drop l.value-index l.list.values))))
      ≡ gives l.spec.filters l.fn.selection (found l.tables l.spec (map (λ v. set l.spec.key l.list.part v) (once l.list.values)));
  key : (v : Value) → set l.key.items l.list.part v ≡ set l.spec.key l.list.part v;
  long : length l.key.items ≡ length l.spec.key;
}
