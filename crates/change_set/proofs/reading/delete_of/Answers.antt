use Rattle.change_set.proofs.Keyed.{keys_within}
use Rattle.change_set.proofs.reading.delete_of.Goals as goal

pub key_of-requires : goal.key_of-requires
key_of-requires c = let within = keys_within c.args.schema.now c.in_ok-table.table c.requires in rw (c.key_columns-parts.ensures, c.as_slice.ensures, c.in_ok-table.ensures.def) within
