use Rattle.std.proofs.Common.{◌≡◌, ◌∷◌, [], ◌++◌, List, Some, length, option_copied, sym, ap, subst, ◌∙◌}
use Rattle.std.specs.List.{take_while}
use Rattle.std.proofs.lemmas.List.{map_push}
use Rattle.row_types.specs.declared.values.Value.{Value}
use Rattle.table_rows.specs.Entries.{Entry}
use Rattle.table_rows.specs.StoreWalks.{is_to}
use Rattle.sql_plan.specs.declared.picking.Picked.{Picked}
use Rattle.sql_plan.specs.Looking.{Looking}
use Rattle.sql_plan.specs.Sorted.{entry_of, entries_in}
use Rattle.sql_plan.proofs.Picks.{ArePicked, picks_more, picks_same, picks_none, looked_more}
use Rattle.sql_plan.proofs.picking.pick.Goals as goal

pub returns-in_default-2-clause-picked : goal.returns-in_default-2-clause-picked
returns-in_default-2-clause-picked c =
    let columns = c.args.end.now.columns.now in
    let edge = c.args.end.now.edge.now in
    let slot = c.in-Some.slot.0 in
    let stays = ap (λ (row : List Value). is_to columns edge (row, slot)) (sym c.as_slice.ensures) ∙ sym (c.is_to.ensures slot) ∙ c.if-not-is_to.false in
    picks_none (option_copied c.args.condition) (take_while (is_to columns edge) c.args.walk) (is_to columns edge) c.loop-slot.walk c.next.new.walk (c.in-Some.row.now, slot) c.in-Some.ensures.next stays
    (entries_in c.loop-slot.picked.items) c.loop-slot.invariant.picked (sym c.in_default-2.is ∙ c.in_ok-is_met.ensures slot)

pub loop-slot-preserved-in-Continue-branch-3 : goal.loop-slot-preserved-in-Continue-branch-3
loop-slot-preserved-in-Continue-branch-3 c =
    let columns = c.args.end.now.columns.now in
    let edge = c.args.end.now.edge.now in
    let slot = c.in-Some.slot.0 in
    let condition = option_copied c.args.condition in
    let whole = take_while (is_to columns edge) c.args.walk in
    let stays = ap (λ (row : List Value). is_to columns edge (row, slot)) (sym c.as_slice.ensures) ∙ sym (c.is_to.ensures slot) ∙ c.if-not-is_to.false in
    let one : Picked = record { slot = c.in-Some.slot; row = c.in-Some.row } in
    let more : entries_in c.push.new.self.items ≡ entries_in c.loop-slot.picked.items ++ entry_of one ∷ [] = ap entries_in c.in_ok-push.ensures.items ∙ map_push entry_of c.loop-slot.picked.items one in
    record {
      picked = subst (λ (es : List Entry). ArePicked condition whole es (take_while (is_to columns edge) c.next.new.walk)) (sym more)
          (picks_more condition whole (is_to columns edge) c.loop-slot.walk c.next.new.walk (c.in-Some.row.now, slot) c.in-Some.ensures.next stays
          (entries_in c.loop-slot.picked.items) c.loop-slot.invariant.picked (sym (c.in-Some-2.is ∙ ap Some c.if-is_met.true) ∙ c.in_ok-is_met.ensures slot));
      looked = looked_more condition whole (is_to columns edge) c.loop-slot.walk c.next.new.walk (c.in-Some.row.now, slot) c.in-Some.ensures.next stays
          c.loop-slot.looker.looked c.next.new.self.looked c.args.looker.now.looked (length whole) c.loop-slot.invariant.looked (ap (λ (l : Looking). l.looked) c.in-Some.ensures.after);
      state = ap (λ (l : Looking). l.state) c.in-Some.ensures.after ∙ c.loop-slot.invariant.state;
    }

pub loop-slot-preserved : goal.loop-slot-preserved
loop-slot-preserved c =
    let columns = c.args.end.now.columns.now in
    let edge = c.args.end.now.edge.now in
    let slot = c.in-Some.slot.0 in
    let condition = option_copied c.args.condition in
    let whole = take_while (is_to columns edge) c.args.walk in
    let stays = ap (λ (row : List Value). is_to columns edge (row, slot)) (sym c.as_slice.ensures) ∙ sym (c.is_to.ensures slot) ∙ c.if-not-is_to.false in
    record {
      picked = picks_same condition whole (is_to columns edge) c.loop-slot.walk c.next.new.walk (c.in-Some.row.now, slot) c.in-Some.ensures.next stays
          (entries_in c.loop-slot.picked.items) c.loop-slot.invariant.picked (sym (c.in-Some-2.is ∙ ap Some c.if-is_met.false) ∙ c.in_ok-is_met.ensures slot);
      looked = looked_more condition whole (is_to columns edge) c.loop-slot.walk c.next.new.walk (c.in-Some.row.now, slot) c.in-Some.ensures.next stays
          c.loop-slot.looker.looked c.next.new.self.looked c.args.looker.now.looked (length whole) c.loop-slot.invariant.looked (ap (λ (l : Looking). l.looked) c.in-Some.ensures.after);
      state = ap (λ (l : Looking). l.state) c.in-Some.ensures.after ∙ c.loop-slot.invariant.state;
    }
