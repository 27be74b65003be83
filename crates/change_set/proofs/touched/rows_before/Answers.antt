use Rattle.std.proofs.Common.{◌≡◌, ◌-◌, ℕ, suc, length, refl, sym, subst, ◌∙◌, arith}
use Rattle.std.specs.BTreeMap.{get}
use Rattle.table_rows.specs.Undoing.{since}
use Rattle.change_set.specs.Touched.{slot_cmp, TellsBefore}
use Rattle.change_set.proofs.SlotNotes.{tells_next, tells_same}
use Rattle.change_set.proofs.touched.rows_before.Goals as goal

pub loop-at-preserved-in_ok-insert : goal.loop-at-preserved-in_ok-insert
loop-at-preserved-in_ok-insert c =
    let entries = c.args.undo.now.entries in
    let at = c.loop-at.at - 1 in
    let next : suc at ≡ c.loop-at.at = omega (arith, c.loop-at-test.true) in
    let tells = subst (λ (n : ℕ). TellsBefore (get slot_cmp c.loop-at.befores) (since n entries)) (sym next) c.loop-at.invariant.1 in (
      omega (arith, c.loop-at.invariant.0),
      tells_next entries at c.entry-note.result.now c.entry-note.ensures (get slot_cmp c.loop-at.befores) (get slot_cmp c.insert.new.self) c.in-Some.slot c.row_before.result (sym c.slot_of.ensures ∙ c.in-Some.is) c.row_before.ensures c.in_ok-insert.ensures.updates.0 tells,
    )

pub loop-at-preserved : goal.loop-at-preserved
loop-at-preserved c =
    let entries = c.args.undo.now.entries in
    let at = c.loop-at.at - 1 in
    let next : suc at ≡ c.loop-at.at = omega (arith, c.loop-at-test.true) in
    let tells = subst (λ (n : ℕ). TellsBefore (get slot_cmp c.loop-at.befores) (since n entries)) (sym next) c.loop-at.invariant.1 in (
      omega (arith, c.loop-at.invariant.0),
      tells_same entries at c.entry-note.result.now c.entry-note.ensures (get slot_cmp c.loop-at.befores) (sym c.slot_of.ensures ∙ c.in_default.is) tells,
    )
