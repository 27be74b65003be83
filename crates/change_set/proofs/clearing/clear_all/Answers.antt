use Rattle.std.proofs.Common.{◌≡◌, List, Ok, ap, sym, subst}
use Rattle.std.proofs.lemmas.List.{take_all}
use Rattle.row_types.specs.declared.tables.Schema.{Schema}
use Rattle.table_rows.proofs.GoingBack.{goes_none, goes_then}
use Rattle.change_set.specs.declared.change.Change.{Change}
use Rattle.change_set.specs.Fitting.{FitsSchema}
use Rattle.table_rows.specs.Database.{database_of}
use Rattle.change_set.specs.Steps.{AreCleared, AreChanging}
use Rattle.change_set.proofs.Cleared.{cleared_none}
use Rattle.change_set.proofs.Carried.{clears_on, changing_on, not_cleared, item_fits}
use Rattle.change_set.proofs.clearing.clear_all.Goals as goal

pub loop-change-init : goal.loop-change-init
loop-change-init c = record { cleared = cleared_none c.args.tables.now; changing = tt; back = goes_none c.args.tables.now c.args.undo.now.entries }

pub clear_one-requires : goal.clear_one-requires
clear_one-requires c =
    subst (λ (s : Schema). FitsSchema s c.change-item.result) (sym c.loop-change.invariant.cleared.alike.schema)
    (item_fits c.args.tables.now.schema c.args.changes.now c.requires c.loop-change.change-index c.change-item.result c.loop-change-test.true c.change-item.is)

pub loop-change-preserved : goal.loop-change-preserved
loop-change-preserved c =
    let one = c.in_ok-is_clear.ensures.cleared (ap Ok c.if-not-is_clear.false) in
    record {
      cleared = clears_on c.args.tables.now c.schema.ensures.valid c.args.changes.now c.requires c.loop-change.tables c.loop-change.change-index c.change-item.result c.loop-change-test.true c.change-item.is c.loop-change.invariant.cleared c.clear_one.new.tables one.0;
      changing = changing_on c.args.tables.now c.schema.ensures.valid c.args.changes.now c.requires c.loop-change.tables c.loop-change.change-index c.change-item.result c.loop-change-test.true c.change-item.is c.loop-change.invariant.cleared c.loop-change.invariant.changing one.1;
      back = goes_then c.args.tables.now c.loop-change.tables c.clear_one.new.tables c.args.undo.now.entries c.loop-change.undo.entries c.clear_one.new.undo.entries c.loop-change.invariant.back c.clear_one.ensures.back;
    }

pub returns-then-not-is_clear-clause-refused : goal.returns-then-not-is_clear-clause-refused
returns-then-not-is_clear-clause-refused c =
    λ refused. not_cleared c.args.tables.now c.schema.ensures.valid c.args.changes.now c.requires c.loop-change.tables c.loop-change.change-index c.change-item.result c.loop-change-test.true c.change-item.is c.loop-change.invariant.cleared
    (c.in_ok-is_clear.ensures.refused (ap Ok c.if-not-is_clear.true))

pub returns-then-not-is_clear-clause-back : goal.returns-then-not-is_clear-clause-back
returns-then-not-is_clear-clause-back c = goes_then c.args.tables.now c.loop-change.tables c.clear_one.new.tables c.args.undo.now.entries c.loop-change.undo.entries c.clear_one.new.undo.entries c.loop-change.invariant.back c.clear_one.ensures.back

pub returns-in_err-is_clear-clause-back : goal.returns-in_err-is_clear-clause-back
returns-in_err-is_clear-clause-back c = goes_then c.args.tables.now c.loop-change.tables c.clear_one.new.tables c.args.undo.now.entries c.loop-change.undo.entries c.clear_one.new.undo.entries c.loop-change.invariant.back c.clear_one.ensures.back

pub returns-clause-cleared : goal.returns-clause-cleared
returns-clause-cleared c =
    let all = take_all c.loop-change.change-index c.args.changes.now c.loop-change-test.false in
    λ done. (
      subst (λ (cs : List Change). AreCleared cs c.args.tables.now c.loop-change.tables) all c.loop-change.invariant.cleared,
      subst (λ (cs : List Change). AreChanging (database_of c.args.tables.now) cs) all c.loop-change.invariant.changing,
    )
