use Rattle.std.proofs.Common.{◌≡◌, ◌+◌, length, map, take}
use Rattle.std.specs.List.{AllByRecursion}
use Rattle.table_rows.specs.StoreInside.{IsOrder, HasRoom, columns_in}
use Rattle.table_rows.proofs.rounds.grow_all.Given as goal

abbrev pub invariant-loop-order : goal.invariant-loop-order
invariant-loop-order l =
    AllByRecursion (IsOrder l.rows) l.orders
    × AllByRecursion (HasRoom (length l.rows + l.more)) (take l.order-index l.orders)
    × (map columns_in l.orders ≡ map columns_in l.initial.orders)
