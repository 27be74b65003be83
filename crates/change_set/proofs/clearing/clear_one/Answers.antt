use Rattle.std.proofs.Common.{◌≡◌, ◌<◌, List, ◌∷◌, [], length, map, sym, ap, subst, ◌∙◌, arith}
use Rattle.std.proofs.lemmas.Bool.{true≢false}
use Rattle.std.proofs.lemmas.List.{length-map}
use Rattle.table_rows.specs.Database.{database_of}
use Rattle.table_rows.proofs.States.{zip_long}
use Rattle.change_set.specs.declared.change.Change.{Change}
use Rattle.change_set.specs.declared.change.Change.TheVariants.{Put, Delete, Count}
use Rattle.change_set.specs.Fitting.{FitsSchema, Holds}
use Rattle.change_set.specs.Putting.{IsChange}
use Rattle.change_set.specs.Steps.{AreCleared, IsLow}
use Rattle.change_set.proofs.Cleared.{change_in, in_change}
use Rattle.change_set.proofs.CounterNotes.{schema_long}
use Rattle.change_set.proofs.Carried.{key_long}
use Rattle.change_set.proofs.clearing.clear_one.Goals as goal

pub clear_put-requires : goal.clear_put-requires
clear_put-requires c =
    let fit = subst (FitsSchema c.args.tables.now.schema) c.in-Put.is c.requires in
    omega (arith, fit.0, schema_long c.args.tables.now c.schema.ensures.valid)

pub clear_key-requires-clause-table : goal.clear_key-requires-clause-table
clear_key-requires-clause-table c =
    let fit = subst (FitsSchema c.args.tables.now.schema) c.in-Delete.is c.requires in
    omega (arith, fit.0, schema_long c.args.tables.now c.schema.ensures.valid)

pub clear_key-requires-clause-key : goal.clear_key-requires-clause-key
clear_key-requires-clause-key c =
    let fit = subst (FitsSchema c.args.tables.now.schema) c.in-Delete.is c.requires in
    ap length c.as_slice.ensures ∙ key_long c.args.tables.now.schema c.in-Delete.table c.in-Delete.key fit.1

pub count_up-requires : goal.count_up-requires
count_up-requires c =
    let fit = subst (FitsSchema c.args.tables.now.schema) c.in-Count.is c.requires in
    omega (arith, fit.0, schema_long c.args.tables.now c.schema.ensures.valid)
