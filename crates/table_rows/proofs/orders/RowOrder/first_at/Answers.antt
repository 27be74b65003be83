use Rattle.std.proofs.Common.{ℕ, not, List, find, sym, ap, subst, ◌∙◌}
use Rattle.index_tree.specs.Parts.{IsParted}
use Rattle.table_rows.specs.Entries.{walk}
use Rattle.table_rows.specs.declared.mark.Mark.{Mark}
use Rattle.table_rows.specs.Cuts.{Line, is_before, line_at}
use Rattle.table_rows.specs.Marks.{slot_marked}
use Rattle.table_rows.specs.StoreInside.{is_ahead_of, is_past}
use Rattle.table_rows.proofs.OrderSteps.{marks_parted, cut_agrees}
use Rattle.table_rows.proofs.MarkLists.{found_mark, opposites_agree}
use Rattle.table_rows.proofs.WalkChanges.{walk_rows}
use Rattle.table_rows.proofs.orders.RowOrder.first_at.Goals as goal

pub first_behind-requires : goal.first_behind-requires
first_behind-requires c =
    let whole = c.args.self.now.whole.items in
    let rows = c.args.rows.now in
    let key = c.args.key.now in
    let line = c.of.ensures ∙ ap (λ (cs : List ℕ). line_at rows cs key c.args.through) c.as_slice-columns.ensures.value in
    subst (λ (l : Line). IsParted (is_before l) c.args.self.now.tree.items) (sym line)
    (subst (IsParted (is_before (line_at rows whole key c.args.through))) (sym c.requires.walked) (marks_parted whole rows key c.args.through c.requires.apart))

pub returns : goal.returns
returns c =
    let whole = c.args.self.now.whole.items in
    let rows = c.args.rows.now in
    let key = c.args.key.now in
    let cut = is_before (line_at rows whole key c.args.through) in
    let entries = walk whole rows in
    let line = c.of.ensures ∙ ap (λ (cs : List ℕ). line_at rows cs key c.args.through) c.as_slice-columns.ensures.value in
    c.first_behind.ensures
    ∙ ap (λ (l : Line). slot_marked (find (λ (m : Mark). not (is_before l m)) c.args.self.now.tree.items)) line
    ∙ ap (λ (ms : List Mark). slot_marked (find (λ (m : Mark). not (cut m)) ms)) c.requires.walked
    ∙ found_mark whole (is_past whole key c.args.through) (λ (m : Mark). not (cut m)) entries
    (opposites_agree whole (is_ahead_of whole key c.args.through) cut entries (cut_agrees whole rows key c.args.through entries (walk_rows whole rows)))
