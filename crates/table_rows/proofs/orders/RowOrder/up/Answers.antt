use Rattle.std.proofs.Common.{ℕ, not, List, filter, sym, ap, subst, ◌∙◌}
use Rattle.index_tree.specs.Parts.{IsParted}
use Rattle.table_rows.specs.declared.mark.Mark.{Mark}
use Rattle.table_rows.specs.Cuts.{Line, is_before, line_at}
use Rattle.table_rows.specs.Marks.{slots_of}
use Rattle.table_rows.proofs.OrderSteps.{marks_parted}
use Rattle.table_rows.proofs.WalkedRows.{behind_cut, behind_rows, up_slots, up_entries, live_slots}
use Rattle.table_rows.proofs.orders.RowOrder.up.Goals as goal

pub up-requires : goal.up-requires
up-requires c =
    let whole = c.args.self.now.whole.items in
    let rows = c.args.rows.now in
    let key = c.args.key.now in
    let line = c.of-cut.ensures ∙ ap (λ (cs : List ℕ). line_at rows cs key c.args.through) c.as_slice.ensures.value in
    record {
      parted = subst (λ (l : Line). IsParted (is_before l) c.args.self.now.tree.items) (sym line)
          (subst (IsParted (is_before (line_at rows whole key c.args.through))) (sym c.requires.walked) (marks_parted whole rows key c.args.through c.requires.apart));
    }

pub invariant_of-result : goal.invariant_of-result
invariant_of-result c =
    let whole = c.args.self.now.whole.items in
    let rows = c.args.rows.now in
    let key = c.args.key.now in
    let items = c.args.self.now.tree.items in
    let line = c.of-cut.ensures ∙ ap (λ (cs : List ℕ). line_at rows cs key c.args.through) c.as_slice.ensures.value in
    let up = c.up.ensures ∙ ap (λ (l : Line). filter (λ (m : Mark). not (is_before l m)) items) line in
    live_slots rows (slots_of c.up.result) (behind_cut whole rows key c.args.through) (up_slots whole rows key c.args.through items c.up.result c.requires.walked up) (behind_rows whole rows key c.args.through)

pub returns : goal.returns
returns c =
    let whole = c.args.self.now.whole.items in
    let rows = c.args.rows.now in
    let key = c.args.key.now in
    let items = c.args.self.now.tree.items in
    let line = c.of-cut.ensures ∙ ap (λ (cs : List ℕ). line_at rows cs key c.args.through) c.as_slice.ensures.value in
    let up = c.up.ensures ∙ ap (λ (l : Line). filter (λ (m : Mark). not (is_before l m)) items) line in
    up_entries whole rows key c.args.through (slots_of c.up.result) (up_slots whole rows key c.args.through items c.up.result c.requires.walked up)
