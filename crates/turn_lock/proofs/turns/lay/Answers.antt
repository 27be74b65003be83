use Rattle.std.proofs.Common.{List, [], ◌∷◌, ◌++◌, Some, rules, refl, ap, sym, ◌∙◌, subst, arith}
use Rattle.std.specs.Prelude.{Option}
use Rattle.turn_lock.proofs.Closing.{opens_with}
use Rattle.turn_lock.proofs.turns.lay.Goals as goal

pub new-requires : goal.new-requires
new-requires g c =
    let kept : g.row.B.Denot = c.args.value in
    let only = c.push_reserved.ensures.items ∙ ap (λ (l : List (Option g.row.B.Denot)). l ++ Some kept ∷ []) c.in-Ok.ensures.items in
    let is = c.requires.dealt.0 in
    opens_with g.B.Keeps.stands g.B.Keeps.maker g.B.Keeps.place g.B.Keeps.faults c.args.dealt.now _ kept _ only refl refl refl (c.next_number.ensures ∙ ap g.B.Keeps.place (sym is)) (search rules) (sym is)
    (subst (λ (x : g.row.B.Denot). g.B.Keeps.stands x [] x) (sym is) c.requires.opened) (omega arith)

pub taken_out-requires : goal.taken_out-requires
taken_out-requires g c =
    let kept : g.row.B.Denot = c.args.value in
    let only = c.push_reserved.ensures.items ∙ ap (λ (l : List (Option g.row.B.Denot)). l ++ Some kept ∷ []) c.in-Ok.ensures.items in
    (kept, c.in-Err.ensures.err ∙ only)
