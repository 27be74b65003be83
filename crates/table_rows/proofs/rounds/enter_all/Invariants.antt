use Rattle.std.proofs.Common.{◌≡◌, map, set, take, drop, Some, None}
use Rattle.std.specs.List.{AllByRecursion}
use Rattle.table_rows.specs.Entries.{kept}
use Rattle.table_rows.specs.StoreInside.{IsOrder, IsFresh, columns_in}
use Rattle.table_rows.proofs.rounds.enter_all.Given as goal

abbrev pub invariant-loop-order : goal.invariant-loop-order
invariant-loop-order l =
    AllByRecursion (IsOrder (set l.rows l.slot (Some l.row))) (take l.order-index l.orders)
    × AllByRecursion (IsOrder (set l.rows l.slot None)) (drop l.order-index l.orders)
    × AllByRecursion (IsFresh l.row (kept (set l.rows l.slot None))) (drop l.order-index l.orders)
    × (map columns_in l.orders ≡ map columns_in l.initial.orders)
