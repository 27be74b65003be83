use Rattle.std.proofs.Common.{◌≡◌, ℕ, ◌-◌, ◌<◌, ◌≤◌, length, set, get_or, Some, vec_len, Vec, Global, sym, ap, subst, ◌∙◌, arith}
use Rattle.std.proofs.lemmas.List.{get_or_default}
use Rattle.table_rows.specs.StoreInside.{AreVacant}
use Rattle.table_rows.proofs.VacantSlots.{place_filled, vacant_somewhere}
use Rattle.table_rows.proofs.vacant.drop_slot.Goals as goal

pub returns-then-index-slot-clause-vacant : goal.returns-then-index-slot-clause-vacant
returns-then-index-slot-clause-vacant c row =
    let list = c.loop-back.vacant.items in
    let at = c.len.result - 1 - c.loop-back.back in
    let is = c.loop-back.invariant.0 in
    let are = subst (λ (v : Vec ℕ Global). AreVacant c.args.rows.now v.items) (sym is) c.requires.vacant in
    let within : at < length list = omega (arith, c.len.ensures, c.loop-back.vacant.ok.0, c.loop-back-test.true, c.len-back-end.ensures, ap (λ (v : Vec ℕ Global). vec_len v) is) in
    let there : get_or list at 0 ≡ c.args.slot = get_or_default list at 0 c.index.result.now within ∙ sym c.index.ensures ∙ c.if-index-slot.true in
    subst (AreVacant (set c.args.rows.now c.args.slot (Some row))) (sym c.remove.ensures.items) (place_filled c.args.rows.now list at c.args.slot row are c.requires.slot within there)

pub returns-clause-vacant : goal.returns-clause-vacant
returns-clause-vacant c row =
    let is = c.loop-back.invariant.0 in
    let are = subst (λ (v : Vec ℕ Global). AreVacant c.args.rows.now v.items) (sym is) c.requires.vacant in
    let all_seen : length c.loop-back.vacant.items ≤ c.loop-back.back = omega (arith, c.loop-back.vacant.ok.0, c.loop-back-test.false, c.len-back-end.ensures, ap (λ (v : Vec ℕ Global). vec_len v) is) in
    absurd (vacant_somewhere c.args.rows.now c.loop-back.vacant.items c.args.slot are c.requires.slot (λ k within. c.loop-back.invariant.1 k within (omega (arith, all_seen))))
