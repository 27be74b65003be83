use Rattle.std.proofs.Common.{map, refl, ap, ◌∙◌}
use Rattle.table_rows.specs.Table.{empty_table}
use Rattle.table_rows.proofs.Wider.{empty_seen, empty_inside}
use Rattle.table_rows.proofs.tables.Tables.new.Goals as goal

pub invariant_of-result : goal.invariant_of-result
invariant_of-result c =
    let stores = c.in_ok-stores.ensures ∙ ap (map empty_table) c.as_slice.ensures in
    empty_inside _ c.args.schema.now c.in_ok-copy.ensures stores refl c.requires.schema c.requires.bytes

pub returns : goal.returns
returns c =
    let stores = c.in_ok-stores.ensures ∙ ap (map empty_table) c.as_slice.ensures in
    empty_seen (record { schema = c.in_ok-copy.copy; bytes_max = c.args.bytes_max; total = 0; stores = c.in_ok-stores.stores }) c.args.schema.now c.in_ok-copy.ensures stores
