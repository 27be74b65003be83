use Rattle.std.proofs.Common.{◌<◌, sym, subst}
use Rattle.hand_off.specs.Passes.{Handed}
use Rattle.hand_off.proofs.Orders.{forks}
use Rattle.hand_off.proofs.hand_off.HandOff.split.Goals as goal

pub another-seat-requires-clause-rule : goal.another-seat-requires-clause-rule
another-seat-requires-clause-rule g c = forks _ _ (subst (λ (handed : Handed g.row.A.Denot). 1 < handed.knows.parts) (sym c.pass.view_is) c.requires.parts)
