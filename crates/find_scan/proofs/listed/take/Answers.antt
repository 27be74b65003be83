use Rattle.std.proofs.Common.{◌≡◌, Bool, not, cond, ◌∷◌, ◌∙◌, refl, sym, ap}
use Rattle.std.specs.BTreeSet.{insert_key}
use Rattle.row_types.specs.declared.values.Value.{Value}
use Rattle.row_types.specs.declared.values.Value.TheVariants.{Null, Int, Text}
use Rattle.row_types.specs.contracts.values.ValueOrd.TheImpl.{cmp-value}
use Rattle.row_types.specs.Order.{value_cmp}
use Rattle.find_scan.specs.Gathering.{is_among, fresh}
use Rattle.find_scan.proofs.Fresh.{contains_is, fresh_step}
use Rattle.find_scan.proofs.listed.take.Goals as goal

derived_is : (a b : Value) → cmp-value.it a b ≡ value_cmp a b
derived_is Null Null = refl
derived_is Null (Int n) = refl
derived_is Null (Text t) = refl
derived_is (Int m) Null = refl
derived_is (Int m) (Int n) = refl
derived_is (Int m) (Text t) = refl
derived_is (Text s) Null = refl
derived_is (Text s) (Int n) = refl
derived_is (Text s) (Text t) = refl

pub returns-in_ok-key-clause-fresh : goal.returns-in_ok-key-clause-fresh
returns-in_ok-key-clause-fresh c later =
    let before = c.args.seen.now.keys in
    let after = c.insert.new.self.keys in
    fresh_step cmp-value.it derived_is before after c.args.value.now later (c.in_ok-is_new.ensures.keys ∙ ap (insert_key cmp-value.it before) c.in_ok-copy_value.ensures)
    ∙ ap (λ (b : Bool). cond b (c.args.value.now ∷ fresh after later) (fresh after later)) (sym (c.in_ok-is_new.ensures.added ∙ ap not (contains_is cmp-value.it derived_is c.args.seen.now _ ∙ ap (is_among before) c.in_ok-copy_value.ensures)))

pub returns-else-is_new-clause-fresh : goal.returns-else-is_new-clause-fresh
returns-else-is_new-clause-fresh c later =
    let before = c.args.seen.now.keys in
    let after = c.insert.new.self.keys in
    fresh_step cmp-value.it derived_is before after c.args.value.now later (c.in_ok-is_new.ensures.keys ∙ ap (insert_key cmp-value.it before) c.in_ok-copy_value.ensures)
    ∙ ap (λ (b : Bool). cond b (c.args.value.now ∷ fresh after later) (fresh after later)) (sym (c.in_ok-is_new.ensures.added ∙ ap not (contains_is cmp-value.it derived_is c.args.seen.now _ ∙ ap (is_among before) c.in_ok-copy_value.ensures)))
