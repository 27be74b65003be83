use Rattle.std.proofs.Common.{◌≡◌, ℕ, List, find, reverse, sym, ap, subst, ◌∙◌}
use Rattle.index_tree.specs.Parts.{IsParted}
use Rattle.table_rows.specs.Entries.{Entry, walk}
use Rattle.table_rows.specs.declared.mark.Mark.{Mark}
use Rattle.table_rows.specs.Cuts.{Line, is_before, line_at}
use Rattle.table_rows.specs.Marks.{entry_mark, slot_marked}
use Rattle.table_rows.specs.StoreInside.{is_ahead_of}
use Rattle.table_rows.proofs.OrderSteps.{marks_parted, cut_agrees}
use Rattle.table_rows.proofs.MarkLists.{found_mark, marks_reversed}
use Rattle.table_rows.proofs.SlotLists.{all_reversed}
use Rattle.table_rows.proofs.WalkChanges.{walk_rows}
use Rattle.table_rows.proofs.orders.RowOrder.last_at.Goals as goal

pub last_before-requires : goal.last_before-requires
last_before-requires c =
    let whole = c.args.self.now.whole.items in
    let rows = c.args.rows.now in
    let key = c.args.key.now in
    let line = c.of.ensures ∙ ap (λ (cs : List ℕ). line_at rows cs key c.args.through) c.as_slice-columns.ensures.value in
    subst (λ (l : Line). IsParted (is_before l) c.args.self.now.tree.items) (sym line)
    (subst (IsParted (is_before (line_at rows whole key c.args.through))) (sym c.requires.walked) (marks_parted whole rows key c.args.through c.requires.apart))

pub returns : goal.returns
returns c =
    let whole = c.args.self.now.whole.items in
    let rows = c.args.rows.now in
    let key = c.args.key.now in
    let cut = is_before (line_at rows whole key c.args.through) in
    let entries = walk whole rows in
    let line = c.of.ensures ∙ ap (λ (cs : List ℕ). line_at rows cs key c.args.through) c.as_slice-columns.ensures.value in
    let ahead = is_ahead_of whole key c.args.through in
    c.last_before.ensures
    ∙ ap (λ (l : Line). slot_marked (find (is_before l) (reverse c.args.self.now.tree.items))) line
    ∙ ap (λ (ms : List Mark). slot_marked (find cut (reverse ms))) c.requires.walked
    ∙ ap (λ (ms : List Mark). slot_marked (find cut ms)) (sym (marks_reversed whole entries))
    ∙ found_mark whole ahead cut (reverse entries)
    (all_reversed (λ (e : Entry). cut (entry_mark whole e) ≡ ahead e) entries (cut_agrees whole rows key c.args.through entries (walk_rows whole rows)))
