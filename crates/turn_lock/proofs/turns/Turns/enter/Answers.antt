use Rattle.std.proofs.Common.{◌∷◌, Some, ap, sym, ◌∙◌, arith}
use Rattle.atomic_table.specs.Table.{rest}
use Rattle.turn_lock.specs.Known.{Known, Lock}
use Rattle.turn_lock.proofs.Drawing.{draws}
use Rattle.turn_lock.proofs.turns.Turns.enter.Goals as goal

pub fetch_add-ticket-requires : goal.fetch_add-ticket-requires
fetch_add-ticket-requires g c =
    let l = c.self.invariant.wide in (
      ap (λ (k : Known _ _). k.lock) c.pass.view_is ∙ (c.requires ∙ sym (ap (λ (k : Lock). k.id) c.self.view_is)),
      omega arith,
      draws g.B.Keeps.stands g.B.Keeps.maker g.B.Keeps.place g.B.Keeps.faults _ _ _ _ c.pass.invariant.rests,
    )

pub exchange-requires : goal.exchange-requires
exchange-requires g c =
    let t = c.await_turn.ensures.turn.1 in (
      c.await_turn.ensures.table ∙ (c.fetch_add-ticket.ensures.0 ∙ (ap (λ (k : Known _ _). k.lock) c.pass.view_is ∙ (c.requires ∙ sym (ap (λ (k : Lock). k.id) c.self.view_is)))),
      (Some t.kept, t.slot ∙ ap (λ l. (0, Some t.kept) ∷ l) (sym (ap rest t.slot))),
    )
