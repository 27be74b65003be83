use Rattle.std.proofs.Common.{ℕ, ap, ◌∙◌}
use Rattle.hs_line.specs.Lines.{starts_longer}
use Rattle.hs_line.proofs.buffer.LineBuf.is_too_long.Goals as goal

pub returns : goal.returns
returns c =
    c.is_too_long.ensures ∙ ap (λ (most : ℕ). starts_longer most c.self.inside.held.bytes) c.self.invariant ∙ ap (starts_longer 65536) c.self.view_is
