use Rattle.std.proofs.Common.{arith}
use Rattle.table_rows.proofs.KeptRows.{count_kept}
use Rattle.table_rows.proofs.store.RowStore.count.Goals as goal

pub overflow_sub-result : goal.overflow_sub-result
overflow_sub-result c = omega (arith, c.len.ensures, c.len-2.ensures, c.self.invariant.vacant.count, count_kept c.self.inside.rows.items)

pub returns-clause-count : goal.returns-clause-count
returns-clause-count c = rw (← c.self.view_is) (omega (arith, c.len.ensures, c.len-2.ensures, c.self.invariant.vacant.count, count_kept c.self.inside.rows.items))
