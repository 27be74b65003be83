-- Primary keys as they are compared, in their rows or by themselves.
use Rattle.std.specs.Prelude.{List, Option, Some, None}
use Rattle.row_types.specs.declared.values.Value.{Value}
use Rattle.row_types.specs.declared.values.Value.TheVariants.{Null}
use Rattle.table_rows.specs.Entries.{cells}
use Rattle.change_set.specs.declared.order.Key.{Key}
use Rattle.change_set.specs.declared.order.Key.TheVariants.{Within, Alone}

-- A value, and NULL where there is none.
abbrev pub value_or_null : Option Value → Value
value_or_null None = Null
value_or_null (Some value) = value

-- The values of a key.
abbrev pub key_seen : Key → List Value
key_seen (Within row columns) = cells columns.now row.now
key_seen (Alone values) = values.now
