use Rattle.std.proofs.Common.{◌≡◌, ℕ, List, [], Some, Vec, Global, length, option_map, option_copied, sym, ap, subst, ◌∙◌}
use Rattle.std.proofs.lemmas.Bool.{eqb-false}
use Rattle.index_tree.specs.Ordered.{AreApart}
use Rattle.table_rows.specs.Entries.{Entry, entry_cmp}
use Rattle.table_rows.specs.Rows.{State, indexes_of, entries_of}
use Rattle.table_rows.specs.Indexes.{primary_of}
use Rattle.sql_plan.specs.declared.picking.Picked.{Picked}
use Rattle.sql_plan.specs.Sorted.{sorted, entries_in}
use Rattle.sql_plan.proofs.FoundRows.{overflows_at_once, picked_apart, found_in_range, never_none}
use Rattle.sql_plan.proofs.ranges.pick_range.Goals as goal

pub returns-then-branch-clause-picked : goal.returns-then-branch-clause-picked
returns-then-branch-clause-picked c =
    let entries = entries_of c.args.looker.now.state c.args.table in
    overflows_at_once (option_copied c.args.condition) entries (λ e. sym c.if-branch.true ∙ c.in_ok-overflows.ensures e) (eqb-false (length entries) 0 (sym c.is_empty.ensures ∙ c.if-is_empty.false))

pub sort_rows-requires : goal.sort_rows-requires
sort_rows-requires c =
    let state = c.args.looker.now.state in
    let picked = entries_in c.in-Some.picked.items in
    let some = sym (ap (option_map (λ (rows : Vec Picked Global). entries_in rows.items)) c.in-Some.is) ∙ c.in_ok-pick_between.ensures.picked in
    let primary : c.primary_parts.result.now ≡ primary_of (indexes_of state c.args.table) =
    c.primary_parts.ensures ∙ ap primary_of (c.indexes.ensures.indexes ∙ ap (λ (s : State). indexes_of s c.args.table) c.pick_between.ensures.state) in
    subst (λ (columns : List ℕ). AreApart (entry_cmp columns) picked) (sym primary)
    (picked_apart state c.pick_between.ensures.valid c.args.table c.requires.table c.args.index c.args.low.now c.args.high.now (option_copied c.args.condition) c.requires.covers
    (λ e. sym (c.in_ok-overflows.ensures e) ∙ c.if-branch.false) picked some)

pub returns-in-None-clause-picked : goal.returns-in-None-clause-picked
returns-in-None-clause-picked c =
    never_none c.args.looker.now.state c.pick_between.ensures.valid c.args.table c.requires.table c.args.index c.args.low.now c.args.high.now (option_copied c.args.condition) c.requires.covers
    (λ e. sym (c.in_ok-overflows.ensures e) ∙ c.if-branch.false)
    (sym (ap (option_map (λ (rows : Vec Picked Global). entries_in rows.items)) c.in-None.is) ∙ c.in_ok-pick_between.ensures.picked)

pub returns-in_ok-sort_rows-in-Some-clause-picked : goal.returns-in_ok-sort_rows-in-Some-clause-picked
returns-in_ok-sort_rows-in-Some-clause-picked c =
    let state = c.args.looker.now.state in
    let picked = entries_in c.in-Some.picked.items in
    let some = sym (ap (option_map (λ (rows : Vec Picked Global). entries_in rows.items)) c.in-Some.is) ∙ c.in_ok-pick_between.ensures.picked in
    let primary : c.primary_parts.result.now ≡ primary_of (indexes_of state c.args.table) =
    c.primary_parts.ensures ∙ ap primary_of (c.indexes.ensures.indexes ∙ ap (λ (s : State). indexes_of s c.args.table) c.pick_between.ensures.state) in
    ap (λ (es : List Entry). Some es) (c.in_ok-sort_rows-in-Some.ensures.ok ∙ ap (λ (columns : List ℕ). sorted [] columns picked) primary)
    ∙ found_in_range state c.pick_between.ensures.valid c.args.table c.requires.table c.args.index c.args.low.now c.args.high.now (option_copied c.args.condition) c.requires.covers
    (λ e. sym (c.in_ok-overflows.ensures e) ∙ c.if-branch.false) picked some
