use Rattle.std.proofs.Common.{arith}
use Rattle.turn_lock.proofs.Counting.{counts}
use Rattle.turn_lock.proofs.handing.count.Goals as goal

pub fetch_add-requires : goal.fetch_add-requires
fetch_add-requires g c =
    let wide = c.requires.table.1 in (
      c.requires.table.0,
      omega arith,
      counts g.B.Keeps.stands g.B.Keeps.maker g.B.Keeps.place g.B.Keeps.faults _ _ _ _ c.requires.holds.0 _ _ c.requires.holds.1 c.requires.named c.requires.maker,
    )
