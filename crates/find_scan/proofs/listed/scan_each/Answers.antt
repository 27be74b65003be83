use Rattle.std.proofs.Common.{◌≡◌, ◌+◌, get_or, Bool, cond, List, [], ◌∷◌, length, length-set, set, drop, ◌<◌, ◌≤◌, sym, ap, subst, ◌∙◌}
use Rattle.std.proofs.lemmas.Bool.{eqb-true}
use Rattle.std.proofs.lemmas.List.{at_drop_more, at_drop_all, set-set}
use Rattle.row_types.specs.declared.values.Value.{Value}
use Rattle.find_scan.specs.Gathering.{Gathered, gives, fresh}
use Rattle.find_scan.proofs.Gathered.{full_gives}
use Rattle.find_scan.proofs.Fresh.{fresh_first}
use Rattle.find_scan.proofs.Turns.{rows_with, new_value, old_value}
use Rattle.find_scan.proofs.listed.scan_each.Goals as goal
use Rattle.find_scan.proofs.listed.scan_each.Goals.{then-branch+in_ok-scan, else-branch, else-loop-value-test, then-loop-value-test+then-is_full}

pub loop-value-init : goal.loop-value-init
loop-value-init c =
    let key : c.into_vec-key.result.items ≡ c.args.spec.now.key = c.into_vec-key.ensures ∙ c.in_ok-copy_row.ensures in
    record {
      given = ap (λ (vs : List Value). gives c.args.spec.now.filters c.args.selection.now (rows_with c.args.tables.now c.args.spec.now c.args.list.now.part vs))
          (ap (λ (keys : List Value). fresh keys c.args.list.now.values) c.new-seen.ensures.empty ∙ fresh_first c.args.list.now.values);
      key = λ v. ap (λ (vs : List Value). set vs c.args.list.now.part v) key;
      long = ap length key;
    }

pub loop-value-preserved : goal.loop-value-preserved
loop-value-preserved c =
    let state = c.args.tables.now in
    let spec = c.args.spec.now in
    let part = c.args.list.now.part in
    let values = c.args.list.now.values in
    let i = c.loop-value.value-index in
    let within : i < length values = subst (λ (vs : List Value). i < length vs) c.as_slice-value-items.ensures c.loop-value-test.true in
    let value = c.value-item.result in
    let value_is : value ≡ get_or values i value = subst (λ (vs : List Value). value ≡ get_or vs i value) c.as_slice-value-items.ensures c.value-item.is in
    let given = λ (vs : List Value). gives spec.filters c.loop-value.selection (rows_with state spec part (fresh c.loop-value.seen.keys vs)) in
    let next = at_drop_more given values i value within ∙ ap (λ (v : Value). given (v ∷ drop (i + 1) values)) (sym value_is) in
    elim c.if-branch.branch [
      | then-branch+in_ok-scan w ↦
          let key = c.in_ok-take.ensures.key ∙ ap (λ (b : Bool). cond b (set c.loop-value.key.items part value) c.loop-value.key.items) w.if-branch.true in
          record {
            given = ap (λ (g : Gathered). gives spec.filters g (rows_with state spec part (fresh c.take.new.seen.keys (drop (i + 1) values)))) w.selection-is
                ∙ new_value state spec part c.loop-value.seen.keys c.take.new.seen.keys (drop (i + 1) values) value c.in_ok-take.field-0 (c.in_ok-take.ensures.fresh (drop (i + 1) values))
                c.loop-value.selection w.scan.new.selection _ w.if-branch.true (w.as_slice.ensures.value ∙ key ∙ c.loop-value.invariant.key value) w.in_ok-scan.ensures
                ∙ sym next ∙ c.loop-value.invariant.given;
            key = λ v. ap (λ (vs : List Value). set vs part v) key ∙ set-set c.loop-value.key.items part value v ∙ c.loop-value.invariant.key v;
            long = ap length key ∙ length-set c.loop-value.key.items part value ∙ c.loop-value.invariant.long;
          }
      | else-branch w ↦
          let key = c.in_ok-take.ensures.key ∙ ap (λ (b : Bool). cond b (set c.loop-value.key.items part value) c.loop-value.key.items) w.if-branch.false in
          record {
            given = ap (λ (g : Gathered). gives spec.filters g (rows_with state spec part (fresh c.take.new.seen.keys (drop (i + 1) values)))) w.selection-is
                ∙ old_value state spec part c.loop-value.seen.keys c.take.new.seen.keys (drop (i + 1) values) value c.in_ok-take.field-0 (c.in_ok-take.ensures.fresh (drop (i + 1) values))
                c.loop-value.selection w.if-branch.false
                ∙ sym next ∙ c.loop-value.invariant.given;
            key = λ v. ap (λ (vs : List Value). set vs part v) key ∙ c.loop-value.invariant.key v;
            long = ap length key ∙ c.loop-value.invariant.long;
          }
    ]

pub returns : goal.returns
returns c = elim c.loop-value-test.branch [
  | else-loop-value-test w ↦ sym (at_drop_all (λ (vs : List Value). gives c.args.spec.now.filters c.loop-value.selection (rows_with c.args.tables.now c.args.spec.now c.args.list.now.part (fresh c.loop-value.seen.keys vs))) c.args.list.now.values c.loop-value.value-index
      (subst (λ (vs : List Value). length vs ≤ c.loop-value.value-index) c.as_slice-value-items.ensures w.loop-value-test.false))
      ∙ c.loop-value.invariant.given
  | then-loop-value-test+then-is_full w ↦ full_gives c.args.spec.now.filters c.loop-value.selection (eqb-true _ _ (sym w.is_full.ensures ∙ w.if-is_full.true)) [] _ ∙ c.loop-value.invariant.given
]
