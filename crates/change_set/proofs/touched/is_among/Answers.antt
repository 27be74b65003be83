use Rattle.std.proofs.Common.{ℕ, List, rules, ◌∙◌}
use Rattle.std.proofs.lemmas.Fn.{always_returns_same}
use Rattle.row_types.specs.declared.values.Value.{Value}
use Rattle.change_set.specs.Touched.{old_cmp, old_seen}
use Rattle.change_set.proofs.Searched.{searched_is}
use Rattle.change_set.proofs.touched.is_among.Goals as goal

pub returns : goal.returns
returns c =
    let wanted : ℕ × List Value = (c.args.table, c.args.row.now) in
    c.is_ok.ensures.value
    ∙ searched_is c.args.olds.now wanted c.requires c.binary_search_by.result c.binary_search_by.ensures.bound
    (c.binary_search_by.ensures.position (λ old. old_cmp (old_seen old) wanted) (always_returns_same _ _ _ (λ a r f k. search rules)))
