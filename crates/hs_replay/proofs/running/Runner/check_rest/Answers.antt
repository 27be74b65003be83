use Rattle.std.proofs.Common.{◌∙◌, ◌≤◌, length, subst, sym, ap}
use Rattle.hs_line.specs.Lines.{has_lf}
use Rattle.hs_line.specs.declared.limits.TheConstants.{MAX_LINE_LEN}
use Rattle.hs_replay.specs.Running.{Held}
use Rattle.hs_replay.proofs.Rests.{not_long}
use Rattle.hs_replay.proofs.running.Runner.check_rest.Goals as goal

pub returns-then-not-is_too_long : goal.returns-then-not-is_too_long
returns-then-not-is_too_long c = subst (λ (s : Held). length s.bytes ≤ MAX_LINE_LEN) c.self.view_is (not_long c.self.inside.held (ap (λ (s : Held). has_lf s.bytes) c.self.view_is ∙ c.requires) (sym c.is_too_long.ensures ∙ c.if-not-is_too_long.true))
