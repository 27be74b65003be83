use Rattle.std.proofs.Common.{rules, ap, arith}
use Rattle.turn_lock.proofs.Dealing.{deals}
use Rattle.turn_lock.proofs.turns.Turns.new.Goals as goal

pub split_seat-seat-requires : goal.split_seat-seat-requires
split_seat-seat-requires g c =
    let i = c.loop-number.invariant in
    let sizes = c.in-Ok-lay.ensures.sizes in
    let wide = sizes.0 in
    let parts = ap (λ m. m.0.passes) i.view in (
      i.seat,
      omega arith,
      deals g.B.Keeps.stands g.B.Keeps.maker g.B.Keeps.place g.B.Keeps.faults _ _ c.loop-number.number c.loop-number.dealer.me.0 (ap (λ m. m.0.stage) i.view) (search rules) (search rules),
    )
