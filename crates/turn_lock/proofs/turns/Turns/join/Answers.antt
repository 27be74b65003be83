use Rattle.std.proofs.Common.{ap, sym, ◌∙◌, arith}
use Rattle.turn_lock.specs.Known.{Known, Lock}
use Rattle.turn_lock.proofs.Joining.{joins, settles}
use Rattle.turn_lock.proofs.Learned.{joined_known}
use Rattle.turn_lock.proofs.turns.Turns.join.Goals as goal

pub join_seat-requires : goal.join_seat-requires
join_seat-requires g c =
    let l = c.self.invariant.wide in
    let id = sym (ap (λ (k : Lock). k.id) c.self.view_is) in (
      ap (λ (k : Known _ _). k.lock) c.pass.view_is ∙ (c.requires.0 ∙ id),
      ap (λ (k : Known _ _). k.lock) c.other.view_is ∙ (c.requires.1 ∙ id),
      c.other.invariant.empty_handed,
      omega arith,
      joins g.B.Keeps.stands g.B.Keeps.maker g.B.Keeps.place g.B.Keeps.faults _ _ _ _ _ c.pass.invariant.rests c.other.invariant.rests,
    )

pub load-requires : goal.load-requires
load-requires g c =
    let l = c.self.invariant.wide in
    let id = sym (ap (λ (k : Lock). k.id) c.self.view_is) in (
      c.join_seat.ensures.0 ∙ (ap (λ (k : Known _ _). k.lock) c.pass.view_is ∙ (c.requires.0 ∙ id)),
      omega arith,
      settles g.B.Keeps.stands g.B.Keeps.maker g.B.Keeps.place g.B.Keeps.faults _ _ _ _ _ _ _ _ (ap (λ m. m.0.stage) c.join_seat.ensures.2),
    )

pub overflow_add-result : goal.overflow_add-result
overflow_add-result g c =
    let s = c.load.ensures.2 _ _ _ _ (ap (λ m. m.0.stage) c.join_seat.ensures.2) in
    let few = s.few in
    let parts = ap (λ m. m.0.passes) c.join_seat.ensures.2 in
    let mine = c.pass.invariant.counted in
    let theirs = c.other.invariant.counted in
    omega arith

pub invariant_of-result : goal.invariant_of-result
invariant_of-result g c =
    let i = c.pass.invariant in
    let o = c.other.invariant in
    let j = c.join_seat.ensures.2 in
    let m = (c.load.ensures.2 _ _ _ _ (ap (λ m. m.0.stage) j)).rests in
    let mine = i.counted in
    let theirs = o.counted in
    record {
      numbered = ap (λ m. m.0.number) m ∙ (ap (λ m. m.0.number) j ∙ i.numbered);
      counted = ap (λ m. m.0.passes) m ∙ (ap (λ m. m.0.passes) j ∙ omega arith);
      rests = ap (λ m. m.0.stage) m;
      empty_handed = ap (λ m. m.1) m ∙ (ap (λ m. m.1) j ∙ i.empty_handed);
    }

pub returns : goal.returns
returns g c =
    joined_known g.B.Keeps.stands g.B.Keeps.maker g.B.Keeps.faults _ _ _ _ c.pass.inside.seat.me.0 c.other.inside.seat.me.0 _ _ _ c.pass.view_is c.other.view_is (c.load.ensures.0 ∙ c.join_seat.ensures.0) (ap (λ m. m.0) c.join_seat.ensures.2)
    (c.load.ensures.2 _ _ _ _ (ap (λ m. m.0.stage) c.join_seat.ensures.2))
