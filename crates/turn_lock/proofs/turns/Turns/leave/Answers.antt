use Rattle.std.proofs.Common.{refl, ap, sym, ◌∙◌, arith}
use Rattle.turn_lock.specs.Known.{Known, Lock}
use Rattle.turn_lock.proofs.PassingOn.{passes_on}
use Rattle.turn_lock.proofs.Learned.{may_end, ended_known}
use Rattle.turn_lock.proofs.turns.Turns.leave.Goals as goal

pub fetch_add-requires : goal.fetch_add-requires
fetch_add-requires g c =
    let h = c.hand_in.ensures in
    let l = c.self.invariant.wide in
    let i = c.turn.invariant in
    let may = may_end g.B.Keeps.stands g.B.Keeps.maker g.B.Keeps.faults _ c.turn.inside.seat.me c.hand_in.new.seat.me _ _ _ i.ticket c.turn.view_is i.holds
    c.requires.stands c.requires.faults h.handed in (
      h.table ∙ (ap (λ (k : Known _ _). k.lock) c.turn.view_is ∙ (c.requires.lock ∙ sym (ap (λ (k : Lock). k.id) c.self.view_is))),
      omega arith,
      passes_on g.B.Keeps.stands g.B.Keeps.maker g.B.Keeps.place g.B.Keeps.faults _ _ _ _ i.ticket h.handed.kept may.holds h.handed.slot may.stood may.fewer,
    )

pub returns : goal.returns
returns g c =
    let h = c.hand_in.ensures in
    let rest = c.fetch_add.ensures.2 h.handed.kept h.handed.slot in
    ended_known g.B.Keeps.stands g.B.Keeps.maker g.B.Keeps.faults _ _ c.turn.inside.seat.me.0 _ c.turn.inside.seat.me c.hand_in.new.seat.me c.fetch_add.new.seat.me _ _ c.turn.view_is
    (c.fetch_add.ensures.0 ∙ h.table) refl h.handed (ap (λ m. m.0) rest)
