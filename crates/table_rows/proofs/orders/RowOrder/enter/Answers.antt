use Rattle.std.proofs.Common.{ℕ, false, List, length, Some, None, sym, ap, subst, ◌∙◌, arith}
use Rattle.index_tree.specs.Parts.{IsParted, put_between}
use Rattle.table_rows.specs.declared.mark.Mark.{Mark}
use Rattle.table_rows.specs.Cuts.{Line, is_before, line_at, row_line}
use Rattle.table_rows.specs.Entries.{cells}
use Rattle.table_rows.specs.Marks.{mark_of, entry_mark}
use Rattle.std.proofs.lemmas.List.{length-set}
use Rattle.index_tree.proofs.Members.{length-put_between}
use Rattle.table_rows.proofs.OrderSteps.{others_parted, others_room, marks_put}
use Rattle.table_rows.proofs.WalkChanges.{keyed_put}
use Rattle.table_rows.proofs.orders.RowOrder.enter.Goals as goal

pub insert-requires-clause-parted : goal.insert-requires-clause-parted
insert-requires-clause-parted c =
    let whole = c.args.self.now.whole.items in
    let rows = c.args.rows.now in
    let row = c.args.row.now in
    let line = c.of-cut.ensures ∙ ap (λ (cs : List ℕ). line_at rows cs (cells cs row) false) c.as_slice.ensures.value in
    subst (λ (l : Line). IsParted (is_before l) c.args.self.now.tree.items) (sym line)
    (subst (IsParted (is_before (line_at rows whole (cells whole row) false))) (sym c.requires.order.walked) (others_parted whole rows c.args.slot row c.requires.order.apart))

pub insert-requires-clause-room : goal.insert-requires-clause-room
insert-requires-clause-room c = others_room c.args.self.now.whole.items c.args.rows.now c.args.slot c.args.self.now.tree.spare c.args.self.now.tree.items c.requires.slot c.requires.order.walked c.requires.order.room

pub returns-clause-order : goal.returns-clause-order
returns-clause-order c =
    let whole = c.args.self.now.whole.items in
    let rows = c.args.rows.now in
    let row = c.args.row.now in
    let items = c.args.self.now.tree.items in
    let keyed = keyed_put whole rows c.args.slot c.requires.slot row c.requires.order.apart c.requires.new in
    let test = is_before (line_at rows whole (cells whole row) false) in
    let mark = entry_mark whole (row, c.args.slot) in
    let line = c.of-cut.ensures ∙ ap (λ (cs : List ℕ). line_at rows cs (cells cs row) false) c.as_slice.ensures.value in
    let put = c.insert.ensures.items ∙ ap (λ (m : Mark). put_between (is_before (row_line c.of-cut.result)) m items) c.of.ensures ∙ ap (λ (l : Line). put_between (is_before l) (mark_of l.digest c.args.slot) items) line in
    record {
      apart = keyed;
      walked = put ∙ ap (put_between test mark) c.requires.order.walked ∙ marks_put whole rows c.args.slot row c.requires.slot keyed;
      room = omega (arith, ap length put, length-put_between test mark items, c.insert.ensures.spare, c.requires.order.room, length-set rows c.args.slot (Some row), length-set rows c.args.slot None);
    }
