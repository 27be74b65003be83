use Rattle.std.proofs.Common.{◌≡◌, map, set, take, drop, None}
use Rattle.std.specs.List.{AllByRecursion}
use Rattle.table_rows.specs.StoreInside.{IsOrder, columns_in}
use Rattle.table_rows.proofs.rounds.leave_all.Given as goal

abbrev pub invariant-loop-order : goal.invariant-loop-order
invariant-loop-order l =
    AllByRecursion (IsOrder (set l.rows l.slot None)) (take l.order-index l.orders)
    × AllByRecursion (IsOrder l.rows) (drop l.order-index l.orders)
    × (map columns_in l.orders ≡ map columns_in l.initial.orders)
