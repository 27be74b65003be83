use Rattle.row_types.proofs.Orders.{value_cmp_total, key_cmp_total, value_cmp-exact}
use Rattle.row_types.proofs.laws.orders_are_total.Goals as goal

pub returns-clause-values : goal.returns-clause-values
returns-clause-values c = value_cmp_total

pub returns-clause-keys : goal.returns-clause-keys
returns-clause-keys c = key_cmp_total

pub returns-clause-equal_values : goal.returns-clause-equal_values
returns-clause-equal_values c = value_cmp-exact
