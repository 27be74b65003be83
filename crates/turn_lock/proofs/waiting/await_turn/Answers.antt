use Rattle.std.proofs.Common.{rules, ◌≡◌, ap, sym, ◌∙◌, subst}
use Rattle.turn_lock.specs.declared.view.Stage.TheVariants.{Waits}
use Rattle.turn_lock.specs.Steps.{Turn}
use Rattle.turn_lock.proofs.Looking.{looks}
use Rattle.turn_lock.proofs.waiting.await_turn.Goals as goal

pub load-served-requires : goal.load-served-requires
load-served-requires g c =
    let w = c.requires.waits in
    (search rules, search rules, looks g.B.Keeps.stands g.B.Keeps.maker g.B.Keeps.place g.B.Keeps.faults _ _ _ _ w.0 (ap (λ m. m.0.stage) c.loop.invariant.1 ∙ w.2))

pub loop-preserved-then-looks-lt-PATIENCE : goal.loop-preserved-then-looks-lt-PATIENCE
loop-preserved-then-looks-lt-PATIENCE g c =
    let w = c.requires.waits in
    let stage : c.loop.seat.me.0.stage ≡ Waits w.0 = ap (λ m. m.0.stage) c.loop.invariant.1 ∙ w.2 in
    (c.load-served.ensures.0 ∙ c.loop.invariant.0, (c.load-served.ensures.2 w.0 stage).1 (λ e. c.if-served-ticket.false (e ∙ sym w.1)) ∙ c.loop.invariant.1)

pub loop-preserved : goal.loop-preserved
loop-preserved g c =
    let w = c.requires.waits in
    let stage : c.loop.seat.me.0.stage ≡ Waits w.0 = ap (λ m. m.0.stage) c.loop.invariant.1 ∙ w.2 in
    (c.load-served.ensures.0 ∙ c.loop.invariant.0, (c.load-served.ensures.2 w.0 stage).1 (λ e. c.if-served-ticket.false (e ∙ sym w.1)) ∙ c.loop.invariant.1)

pub returns-then-served-ticket-clause-turn : goal.returns-then-served-ticket-clause-turn
returns-then-served-ticket-clause-turn g c =
    let w = c.requires.waits in
    let stage : c.loop.seat.me.0.stage ≡ Waits w.0 = ap (λ m. m.0.stage) c.loop.invariant.1 ∙ w.2 in
    (w.0, subst (λ m. Turn g.B.Keeps.stands g.B.Keeps.maker g.B.Keeps.faults w.0 m c.load-served.new.seat.me) c.loop.invariant.1 ((c.load-served.ensures.2 w.0 stage).0 (c.if-served-ticket.true ∙ w.1)))
