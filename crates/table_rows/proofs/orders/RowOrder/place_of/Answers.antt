use Rattle.std.proofs.Common.{◌≡◌, ℕ, false, not, List, Option, Some, slice_get, IsSomeAnd, option_copied, sym, ap, subst, ◌∙◌}
use Rattle.index_tree.specs.Parts.{IsParted, first_place}
use Rattle.index_tree.specs.Contents.{IsAt}
use Rattle.table_rows.specs.declared.mark.Mark.{Mark}
use Rattle.table_rows.specs.Cuts.{Line, is_before, line_at}
use Rattle.table_rows.specs.Entries.{row_under, cells}
use Rattle.table_rows.specs.Marks.{slot_marked}
use Rattle.table_rows.proofs.OrderSteps.{marks_parted, place_in_walk, place_found, mark_in_walk, found_place}
use Rattle.table_rows.proofs.orders.RowOrder.place_of.Goals as goal

pub first_behind-requires : goal.first_behind-requires
first_behind-requires c =
    let whole = c.args.self.now.whole.items in
    let rows = c.args.rows.now in
    let row = c.in-Some.row.now in
    let line = c.of.ensures ∙ ap (λ (cs : List ℕ). line_at rows cs (cells cs row) false) c.as_slice-columns.ensures.value in
    record {
      parted = subst (λ (l : Line). IsParted (is_before l) c.args.self.now.tree.items) (sym line)
          (subst (IsParted (is_before (line_at rows whole (cells whole row) false))) (sym c.requires.order.walked) (marks_parted whole rows (cells whole row) false c.requires.order.apart));
    }

pub unreachable-requires-in-None-first_behind : goal.unreachable-requires-in-None-first_behind
unreachable-requires-in-None-first_behind c =
    let whole = c.args.self.now.whole.items in
    let rows = c.args.rows.now in
    let row = c.in-Some.row.now in
    let live : row_under rows c.args.slot ≡ Some row = sym c.row_in.ensures ∙ ap option_copied c.in-Some.is in
    let line = c.of.ensures ∙ ap (λ (cs : List ℕ). line_at rows cs (cells cs row) false) c.as_slice-columns.ensures.value in
    let where_it_is = ap (λ (l : Line). first_place (λ (m : Mark). not (is_before l m)) c.args.self.now.tree.items) line
    ∙ ap (first_place (λ (m : Mark). not (is_before (line_at rows whole (cells whole row) false) m))) c.requires.order.walked ∙ place_found whole rows c.args.slot row live c.requires.order.apart in
    subst (λ (o : Option ℕ). IsSomeAnd o (λ (at : ℕ). IsAt c.args.self.now.tree at (place_in_walk whole rows c.args.slot row live c.requires.order.apart).0)) c.in-None-first_behind.is
    (found_place c.args.self.now.tree _ _ c.first_behind.result c.first_behind.ensures.first where_it_is)

pub returns : goal.returns
returns c =
    let whole = c.args.self.now.whole.items in
    let rows = c.args.rows.now in
    let row = c.in-Some.row.now in
    let live : row_under rows c.args.slot ≡ Some row = sym c.row_in.ensures ∙ ap option_copied c.in-Some.is in
    let line = c.of.ensures ∙ ap (λ (cs : List ℕ). line_at rows cs (cells cs row) false) c.as_slice-columns.ensures.value in
    let where_it_is = ap (λ (l : Line). first_place (λ (m : Mark). not (is_before l m)) c.args.self.now.tree.items) line
    ∙ ap (first_place (λ (m : Mark). not (is_before (line_at rows whole (cells whole row) false) m))) c.requires.order.walked ∙ place_found whole rows c.args.slot row live c.requires.order.apart in
    let k = (place_in_walk whole rows c.args.slot row live c.requires.order.apart).0 in (
      k,
      subst (λ (o : Option ℕ). IsSomeAnd o (λ (at : ℕ). IsAt c.args.self.now.tree at k)) c.in-Some-first_behind.is
          (found_place c.args.self.now.tree _ _ c.first_behind.result c.first_behind.ensures.first where_it_is),
      subst (λ (items : List Mark). slot_marked (slice_get items k) ≡ Some c.args.slot) (sym c.requires.order.walked) (mark_in_walk whole rows c.args.slot row live c.requires.order.apart),
    )
