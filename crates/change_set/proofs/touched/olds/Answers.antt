use Rattle.std.proofs.Common.{◌≡◌, ◌++◌, ℕ, List, map, rules, is_lt, ap, subst, ◌∙◌}
use Rattle.std.specs.List.Sorted.{IsPermutation}
use Rattle.std.proofs.lemmas.Fn.{always_returns_same}
use Rattle.std.proofs.lemmas.List.Sorted.{ranks_by, IsPermutation-map}
use Rattle.row_types.specs.declared.values.Value.{Value}
use Rattle.table_rows.specs.Undoing.{since}
use Rattle.change_set.specs.declared.touched.OldRow.{OldRow}
use Rattle.change_set.specs.Touched.{old_cmp, old_seen, olds_of}
use Rattle.change_set.proofs.Searched.{old_total}
use Rattle.change_set.proofs.touched.olds.Goals as goal

pub returns-clause-rows : goal.returns-clause-rows
returns-clause-rows c =
    let entries = c.args.undo.now.entries in
    let rows = olds_of c.args.tables.now (since 0 entries) entries in
    let pushed = c.in_ok-push_olds.ensures ∙ ap (λ (olds : List OldRow). map old_seen olds ++ rows) c.new-olds.ensures.items in
    subst (λ (zs : List (ℕ × List Value)). IsPermutation zs (map old_seen c.sort_unstable_by.new.self.items)) pushed
    (IsPermutation-map old_seen c.push_olds.new.olds.items c.sort_unstable_by.new.self.items c.sort_unstable_by.ensures.permutation)

pub returns-clause-sorted : goal.returns-clause-sorted
returns-clause-sorted c =
    c.sort_unstable_by.ensures.sorted (λ a b. is_lt (old_cmp (old_seen a) (old_seen b))) (ranks_by old_total old_seen) (always_returns_same _ _ _ (λ a r f k. search rules))
