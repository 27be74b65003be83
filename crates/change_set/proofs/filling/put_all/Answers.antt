use Rattle.std.proofs.Common.{◌≡◌, List, ◌∷◌, [], Ok, take, ap, sym, subst}
use Rattle.std.proofs.lemmas.List.{take_all}
use Rattle.index_tree.proofs.Elements.{all_members, contains_at}
use Rattle.row_types.specs.declared.tables.Schema.{Schema}
use Rattle.table_rows.proofs.GoingBack.{goes_none, goes_then}
use Rattle.change_set.specs.declared.change.Change.{Change}
use Rattle.change_set.specs.Fitting.{FitsSchema}
use Rattle.change_set.specs.Steps.{AreFilled}
use Rattle.change_set.proofs.Carried.{get_item, take_item}
use Rattle.change_set.proofs.Filled.{filled_none, filled_then}
use Rattle.change_set.proofs.filling.put_all.Goals as goal

pub loop-change-init : goal.loop-change-init
loop-change-init c = record { filled = filled_none c.args.tables.now; back = goes_none c.args.tables.now c.args.undo.now.entries }

pub put_one-requires : goal.put_one-requires
put_one-requires c =
    let changes = c.args.changes.now in
    let item = c.change-item.result in
    subst (λ (s : Schema). FitsSchema s item) (sym c.loop-change.invariant.filled.alike.schema)
    (all_members (FitsSchema c.args.tables.now.schema) changes item c.requires (contains_at changes c.loop-change.change-index item (get_item changes c.loop-change.change-index item c.loop-change-test.true c.change-item.is)))

pub loop-change-preserved : goal.loop-change-preserved
loop-change-preserved c =
    let changes = c.args.changes.now in
    let item = c.change-item.result in
    let i = c.loop-change.change-index in
    let one = c.in_ok-is_in.ensures.filled (ap Ok c.if-not-is_in.false) in
    record {
      filled = subst (λ (cs : List Change). AreFilled cs c.args.tables.now c.put_one.new.tables) (sym (take_item changes i item c.loop-change-test.true c.change-item.is))
          (filled_then (take i changes) (item ∷ []) c.args.tables.now c.loop-change.tables c.put_one.new.tables c.loop-change.invariant.filled one);
      back = goes_then c.args.tables.now c.loop-change.tables c.put_one.new.tables c.args.undo.now.entries c.loop-change.undo.entries c.put_one.new.undo.entries c.loop-change.invariant.back c.put_one.ensures.back;
    }

pub returns-then-not-is_in-clause-refused : goal.returns-then-not-is_in-clause-refused
returns-then-not-is_in-clause-refused c = λ refused. record {
  at = c.loop-change.change-index;
  change = c.change-item.result;
  state = c.loop-change.tables;
  here = get_item c.args.changes.now c.loop-change.change-index c.change-item.result c.loop-change-test.true c.change-item.is;
  filled = c.loop-change.invariant.filled;
  valid = c.schema.ensures.valid;
  barred = c.in_ok-is_in.ensures.refused (ap Ok c.if-not-is_in.true);
}

pub returns-then-not-is_in-clause-back : goal.returns-then-not-is_in-clause-back
returns-then-not-is_in-clause-back c = goes_then c.args.tables.now c.loop-change.tables c.put_one.new.tables c.args.undo.now.entries c.loop-change.undo.entries c.put_one.new.undo.entries c.loop-change.invariant.back c.put_one.ensures.back

pub returns-in_err-is_in-clause-back : goal.returns-in_err-is_in-clause-back
returns-in_err-is_in-clause-back c = goes_then c.args.tables.now c.loop-change.tables c.put_one.new.tables c.args.undo.now.entries c.loop-change.undo.entries c.put_one.new.undo.entries c.loop-change.invariant.back c.put_one.ensures.back

pub returns-clause-filled : goal.returns-clause-filled
returns-clause-filled c = λ all. subst (λ (cs : List Change). AreFilled cs c.args.tables.now c.loop-change.tables) (take_all c.loop-change.change-index c.args.changes.now c.loop-change-test.false) c.loop-change.invariant.filled
