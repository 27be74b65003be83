use Rattle.std.proofs.Common.{◌≡◌, ℕ, ◌+◌, ◌-◌, List, [], ◌∷◌, ◌++◌, length, replicate, Option, None, sym, ap, subst, ◌∙◌, arith}
use Rattle.std.proofs.lemmas.List.{append_assoc, length_push, replicate_more}
use Rattle.row_types.specs.declared.values.Value.{Value}
use Rattle.table_rows.specs.Entries.{Slots}
use Rattle.table_rows.specs.StoreInside.{AreVacant}
use Rattle.table_rows.proofs.VacantSlots.{one_added}
use Rattle.table_rows.proofs.vacant.add_slots.Goals as goal

pub loop-slot-preserved : goal.loop-slot-preserved
loop-slot-preserved c =
    let kept_on = c.loop-slot.invariant in
    let rows = c.loop-slot.rows.items in
    let old = c.args.rows.now.items in
    let n = c.loop-slot.slot - c.len-first.result in
    let more : n + 1 ≡ c.loop-slot.slot + 1 - c.len-first.result = omega (arith, c.loop-slot.auto.slot) in
    let none : Option (List Value) = None in (
      c.push_reserved.ensures.items ∙ ap (λ (xs : Slots). xs ++ none ∷ []) kept_on.0 ∙ append_assoc old (replicate n none) (none ∷ []) ∙ ap (λ (xs : Slots). old ++ xs) (replicate_more n none ∙ ap (λ (m : ℕ). replicate m none) more),
      omega (arith, ap length c.push_reserved.ensures.items, length_push rows none, kept_on.1),
      subst (λ (xs : Slots). AreVacant xs c.push_reserved-in-loop-slot.new.self.items) (sym c.push_reserved.ensures.items)
          (subst (AreVacant (rows ++ none ∷ [])) (sym (c.push_reserved-in-loop-slot.ensures.items ∙ ap (λ (m : ℕ). c.loop-slot.vacant.items ++ m ∷ []) (sym kept_on.1))) (one_added rows c.loop-slot.vacant.items kept_on.2)),
      c.push_reserved.ensures.capacity ∙ kept_on.3,
      c.push_reserved-in-loop-slot.ensures.capacity ∙ kept_on.4,
      omega (arith, c.push_reserved-in-loop-slot.ensures.len, kept_on.5),
      omega (arith, c.push_reserved.ensures.len, kept_on.6),
    )
