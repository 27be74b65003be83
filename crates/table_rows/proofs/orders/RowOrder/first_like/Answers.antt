use Rattle.std.proofs.Common.{ℕ, false, not, List, find, Some, None, sym, ap, subst, ◌∙◌}
use Rattle.index_tree.specs.Parts.{IsParted}
use Rattle.table_rows.specs.declared.mark.Mark.{Mark}
use Rattle.table_rows.specs.Cuts.{Line, is_before, line_at}
use Rattle.table_rows.specs.Entries.{row_under, cells, walk}
use Rattle.table_rows.specs.Marks.{marks_in, slot_marked}
use Rattle.table_rows.specs.StoreWalks.{IsKeyed, first_like, slot_in}
use Rattle.table_rows.proofs.LikeRows.{own_parted, like_slot, if_same}
use Rattle.std.proofs.lemmas.Bool.{cond-true, cond-false}
use Rattle.table_rows.specs.StoreInside.{is_same}
use Rattle.table_rows.proofs.orders.RowOrder.first_like.Goals as goal

pub first_behind-requires : goal.first_behind-requires
first_behind-requires c =
    let own = c.args.self.now.own.items in
    let rows = c.args.rows.now in
    let row = c.args.row.now in
    let order = c.requires.order in
    let key = c.requires.columns.0 in
    let line = c.of.ensures ∙ ap (λ (cs : List ℕ). line_at rows cs (cells cs row) false) c.as_slice-columns.ensures.value in
    subst (λ (l : Line). IsParted (is_before l) c.args.self.now.tree.items) (sym line)
    (subst (IsParted (is_before (line_at rows own (cells own row) false))) (sym (order.walked ∙ ap (λ (cs : List ℕ). marks_in cs (walk cs rows)) c.requires.columns.1))
    (own_parted own key row rows (subst (λ (cs : List ℕ). IsKeyed cs rows) c.requires.columns.1 order.apart)))

pub returns-in_err-slot : goal.returns-in_err-slot
returns-in_err-slot c =
    let own = c.args.self.now.own.items in
    let key = c.requires.columns.0 in
    let rows = c.args.rows.now in
    let row = c.args.row.now in
    let order = c.requires.order in
    let columns = c.requires.columns.1 in
    let line = c.of.ensures ∙ ap (λ (cs : List ℕ). line_at rows cs (cells cs row) false) c.as_slice-columns.ensures.value in
    let found = c.first_behind.ensures
    ∙ ap (λ (l : Line). slot_marked (find (λ (m : Mark). not (is_before l m)) c.args.self.now.tree.items)) line
    ∙ ap (λ (ms : List Mark). slot_marked (find (λ (m : Mark). not (is_before (line_at rows own (cells own row) false) m)) ms)) (order.walked ∙ ap (λ (cs : List ℕ). marks_in cs (walk cs rows)) columns) in
    let told = ap (λ (cs : List ℕ). slot_in (first_like own row (walk cs rows))) columns
    ∙ like_slot own key row rows c.first_behind.result (subst (λ (cs : List ℕ). IsKeyed cs rows) columns order.apart) found in
    c.from_residual.ensures ∙ sym (told ∙ ap (if_same own key row rows) c.in_err-slot.was)

pub returns-then-is_same : goal.returns-then-is_same
returns-then-is_same c =
    let own = c.args.self.now.own.items in
    let key = c.requires.columns.0 in
    let rows = c.args.rows.now in
    let row = c.args.row.now in
    let order = c.requires.order in
    let columns = c.requires.columns.1 in
    let line = c.of.ensures ∙ ap (λ (cs : List ℕ). line_at rows cs (cells cs row) false) c.as_slice-columns.ensures.value in
    let found = c.first_behind.ensures
    ∙ ap (λ (l : Line). slot_marked (find (λ (m : Mark). not (is_before l m)) c.args.self.now.tree.items)) line
    ∙ ap (λ (ms : List Mark). slot_marked (find (λ (m : Mark). not (is_before (line_at rows own (cells own row) false) m)) ms)) (order.walked ∙ ap (λ (cs : List ℕ). marks_in cs (walk cs rows)) columns) in
    let told = ap (λ (cs : List ℕ). slot_in (first_like own row (walk cs rows))) columns
    ∙ like_slot own key row rows c.first_behind.result (subst (λ (cs : List ℕ). IsKeyed cs rows) columns order.apart) found in
    let slot = c.in_ok-slot.slot in
    let same = ap (λ (cs : List ℕ). is_same cs row (row_under rows slot)) (sym c.as_slice-columns.ensures.value) ∙ sym c.is_same.ensures ∙ c.if-is_same.true in
    sym (told ∙ ap (if_same own key row rows) c.in_ok-slot.was ∙ cond-true (is_same own row (row_under rows slot)) (Some slot) None same)

pub returns-else-is_same : goal.returns-else-is_same
returns-else-is_same c =
    let own = c.args.self.now.own.items in
    let key = c.requires.columns.0 in
    let rows = c.args.rows.now in
    let row = c.args.row.now in
    let order = c.requires.order in
    let columns = c.requires.columns.1 in
    let line = c.of.ensures ∙ ap (λ (cs : List ℕ). line_at rows cs (cells cs row) false) c.as_slice-columns.ensures.value in
    let found = c.first_behind.ensures
    ∙ ap (λ (l : Line). slot_marked (find (λ (m : Mark). not (is_before l m)) c.args.self.now.tree.items)) line
    ∙ ap (λ (ms : List Mark). slot_marked (find (λ (m : Mark). not (is_before (line_at rows own (cells own row) false) m)) ms)) (order.walked ∙ ap (λ (cs : List ℕ). marks_in cs (walk cs rows)) columns) in
    let told = ap (λ (cs : List ℕ). slot_in (first_like own row (walk cs rows))) columns
    ∙ like_slot own key row rows c.first_behind.result (subst (λ (cs : List ℕ). IsKeyed cs rows) columns order.apart) found in
    let slot = c.in_ok-slot.slot in
    let same = ap (λ (cs : List ℕ). is_same cs row (row_under rows slot)) (sym c.as_slice-columns.ensures.value) ∙ sym c.is_same.ensures ∙ c.if-is_same.false in
    sym (told ∙ ap (if_same own key row rows) c.in_ok-slot.was ∙ cond-false (is_same own row (row_under rows slot)) (Some slot) None same)
