use Rattle.std.proofs.Common.{length}
use Rattle.change_set.specs.Keys.{key_seen}
use Rattle.change_set.proofs.order.+cmp_keys.Given as goal

abbrev pub decreases-cmp_keys : goal.decreases-cmp_keys
decreases-cmp_keys l = length (key_seen l.a)
