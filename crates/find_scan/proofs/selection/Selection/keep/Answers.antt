use Rattle.std.proofs.Common.{◌<◌, ◌∷◌, ◌∙◌, ap, sym, subst, arith}
use Rattle.find_scan.specs.Gathering.{Gathered, with_kept}
use Rattle.find_scan.proofs.Gathered.{selected_is}
use Rattle.find_scan.proofs.selection.Selection.keep.Goals as goal

pub returns : goal.returns
returns c row later =
    selected_is c.self.inside.slots.items c.push.new.self.items c.self.inside.to_drop c.self.inside.room (row, c.args.slot.0) later
    c.in_ok-push.ensures.items (omega (arith, c.if-self-gt0.false)) (subst (λ (g : Gathered). 0 < g.room) (sym c.self.view_is) c.requires)
    ∙ ap (λ (g : Gathered). with_kept g ((row, c.args.slot.0) ∷ later)) c.self.view_is
