use Rattle.std.proofs.Common.{rules, is_lt}
use Rattle.std.proofs.lemmas.Result.{on_ok_weaker}
use Rattle.std.proofs.lemmas.List.Sorted.{ranks_by}
use Rattle.std.proofs.lemmas.Fn.{always_returns_same}
use Rattle.sql_plan.specs.declared.picking.Picked.{Picked}
use Rattle.sql_plan.specs.Sorted.{row_cmp}
use Rattle.sql_plan.proofs.Orders.{row_cmp_total, sorted_is}
use Rattle.sql_plan.proofs.sorting.sort_rows.Goals as goal

pub returns-clause-ok : goal.returns-clause-ok
returns-clause-ok c =
    let order = c.args.order.now in
    let primary = c.args.primary.now in
    on_ok_weaker c.sort_by.result
    (λ sorted. sorted_is order primary c.args.picked.now.items c.sort_by.new.self.items c.requires c.sort_by.ensures.permutation
    (sorted (λ (a b : Picked). is_lt (row_cmp order primary a.row.now b.row.now)) (ranks_by (row_cmp_total order primary) (λ (p : Picked). p.row.now)) (always_returns_same _ _ _ (λ a r f k. search rules))))
    c.sort_by.ensures.sorted
