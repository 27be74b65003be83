use Rattle.std.proofs.Common.{◌≡◌, ℕ, suc, ◌+◌, ◌≤◌, List, ◌∷◌, length, drop, get_or, Result, sym, subst, ap, ◌∙◌, arith}
use Rattle.std.proofs.Math.Seq.{drop-cons}
use Rattle.request_types.specs.declared.codes.Code.{Code}
use Rattle.request_types.specs.Refusal.{◌>>=◌}
use Rattle.table_rows.specs.declared.slot_ref.SlotRef.{SlotRef}
use Rattle.table_rows.specs.Rows.{State}
use Rattle.table_rows.specs.Named.{AreSlots}
use Rattle.find_modify.specs.Change.{changed_all}
use Rattle.table_rows.proofs.GoingBack.{noted_then}
use Rattle.find_modify.proofs.Others.{slots_rest}
use Rattle.find_modify.proofs.modifies.change_all.Goals as goal

pub returns-in_err-change_one-clause-noted : goal.returns-in_err-change_one-clause-noted
returns-in_err-change_one-clause-noted c =
    noted_then c.args.tables.now c.loop-slot.tables c.change_one.new.tables c.args.undo.now.entries c.loop-slot.undo.entries c.change_one.new.undo.entries c.loop-slot.invariant.noted c.change_one.ensures.noted

pub loop-slot-preserved : goal.loop-slot-preserved
loop-slot-preserved c =
    let slots : List SlotRef = c.args.slots.now in
    let here = c.loop-slot.slot-index in
    let slot : SlotRef = get_or slots here (record { 0 = 0 }) in
    let rest = drop (suc here) slots in
    let further : suc here ≡ here + 1 = omega arith in
    let parted : drop here slots ≡ slot ∷ rest = drop-cons slots here (record { 0 = 0 }) c.loop-slot-test.true in
    let go = changed_all c.args.table c.args.columns.now c.args.change.now in
    let first = ap (λ (ss : List SlotRef). go ss c.loop-slot.tables) parted in
    let next = ap (λ (r : Result State Code). r >>= go rest) c.in_ok-change_one.ensures.gives in
    let spare : length rest ≤ c.change_one.new.undo.spare = omega (arith, ap length parted, c.loop-slot.invariant.spare, c.change_one.ensures.spare) in
    record {
      made = ap (λ (k : ℕ). go (drop k slots) c.change_one.new.tables) (sym further) ∙ sym next ∙ sym first ∙ c.loop-slot.invariant.made;
      noted = noted_then c.args.tables.now c.loop-slot.tables c.change_one.new.tables c.args.undo.now.entries c.loop-slot.undo.entries c.change_one.new.undo.entries c.loop-slot.invariant.noted c.change_one.ensures.noted;
      slots = subst (λ (k : ℕ). AreSlots c.change_one.new.tables c.args.table (drop k slots)) further
          (slots_rest c.args.table c.loop-slot.tables c.change_one.new.tables slot c.change_one.ensures.others rest (subst (AreSlots c.loop-slot.tables c.args.table) parted c.loop-slot.invariant.slots));
      spare = subst (λ (k : ℕ). length (drop k slots) ≤ c.change_one.new.undo.spare) further spare;
    }
