use Rattle.std.proofs.Common.{ap, sym, ◌∙◌, subst}
use mathlib.Core.Option.{some-injective}
use Rattle.turn_lock.specs.Known.{Known, Lock}
use Rattle.turn_lock.specs.Turns.{StandsFor}
use Rattle.turn_lock.proofs.Closing.{closes}
use Rattle.turn_lock.proofs.Stays.{some_is, none_is}
use Rattle.turn_lock.proofs.turns.Turns.close.Goals as goal

pub unreachable-requires : goal.unreachable-requires
unreachable-requires g c =
    let whole = c.pass.invariant.counted ∙ (c.if-pass-self.false ∙ sym c.self.invariant.dealt) in
    let ends = closes g.B.Keeps.stands g.B.Keeps.maker g.B.Keeps.place g.B.Keeps.faults _ _ _ _ _ c.pass.invariant.rests whole c.close_with-closed.ensures.values.2 in
    none_is ends.kept c.take.result c.in_default.is (sym c.take.ensures.value ∙ ends.there)

pub returns-clause-ok : goal.returns-clause-ok
returns-clause-ok g c =
    let whole = c.pass.invariant.counted ∙ (c.if-pass-self.false ∙ sym c.self.invariant.dealt) in
    let ends = closes g.B.Keeps.stands g.B.Keeps.maker g.B.Keeps.place g.B.Keeps.faults _ _ _ _ _ c.pass.invariant.rests whole c.close_with-closed.ensures.values.2 in
    let same = some_is ends.kept c.in-Some.value (sym (some-injective _ _ (sym c.take.ensures.value ∙ ends.there)) ∙ c.in-Some.is) in (
      sym (ap (λ (k : Known _ _). k.passes) c.pass.view_is) ∙ (c.pass.invariant.counted ∙ (c.if-pass-self.false ∙ ap (λ (k : Lock). k.passes) c.self.view_is)),
      subst (λ (k : Known _ _). StandsFor g.B.Keeps.stands k.opened k.seen c.in-Some.value) c.pass.view_is
          (λ o e. subst (λ (k : g.row.B.Denot). g.B.Keeps.stands o c.pass.inside.seat.me.0.seen k) same (ends.stood o e)),
    )
