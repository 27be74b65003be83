use Rattle.std.proofs.Common.{ℕ, ◌+◌, ◌%◌, [], ◌∷◌, length, length-append, ap, sym, ◌∙◌, arith}
use Rattle.std.proofs.Math.Nat.{mod-add-mod}
use Rattle.turn_lock.specs.declared.tests.Entry.{Entry}
use Rattle.turn_lock.specs.Known.{Known}
use Rattle.turn_lock.proofs.tests.take_turns.Goals as goal

pub leave-pass-requires-clause-stands : goal.leave-pass-requires-clause-stands
leave-pass-requires-clause-stands g c = λ o e.
    let held = c.enter-held in
    let before = held.ensures.value o (sym (ap (λ (k : Known _ _). k.opened) held.ensures.turn.begins) ∙ e) in
    let seen = held.result.turn.seen in
    let entry : Entry = record { by = c.number-by.result; place = c.loop-place.place } in
    c.count.ensures
    ∙ (ap (λ (x : ℕ). (x + 1) % 18446744073709551616) before ∙ mod-add-mod (o.entries + length seen) 18446744073709551616 1
    ∙ ap (λ (x : ℕ). x % 18446744073709551616) (omega (arith, length-append seen (entry ∷ []))))
