use Rattle.std.proofs.Common.{◌≡◌, ◌+◌, ◌<◌, ◌∙◌, ◌++◌, ◌∷◌, [], List, ℕ, length, min, take, get_or, sym, ap, subst, arith}
use Rattle.std.proofs.lemmas.List.{take_more, take_all}
use Rattle.std.proofs.lemmas.Result.{IfOk-weaker}
use Rattle.hs_disk.specs.declared.change.Change.{Change}
use Rattle.hs_disk.specs.Images.{read_after, read_at_end}
use Rattle.hs_disk.specs.Held.{Held, made}
use Rattle.hs_disk.specs.Picks.{left_after, picked, AreWithin}
use Rattle.hs_disk.specs.Sound.{left_at}
use Rattle.hs_disk.proofs.ImageLemmas.{read_push}
use Rattle.hs_disk.proofs.PickLemmas.{left_push, picked_at}
use Rattle.hs_disk.proofs.mem_disk.MemDisk.image.Goals as goal

pub loop-change-preserved : goal.loop-change-preserved
loop-change-preserved c =
    let first : List ℕ = c.args.self.now.first in
    let pick = c.args.pick in
    let i : ℕ = c.loop-change.change-index in
    let all : List Change = take c.min-count.result c.args.self.now.changes in
    let change : Change = c.change-item.result in
    let changes_are : c.deref.result.now ≡ c.args.self.now.changes = c.deref.ensures.value ∙ ap (λ (d : Held). d.changes) c.self.view_is in
    let is : change ≡ get_or all i change = subst (λ (l : List Change). change ≡ get_or (take c.min-count.result l) i change) changes_are c.change-item.is in
    let within : i < length all = omega (arith, c.loop-change-test.true, ap (λ (l : List Change). length (take c.min-count.result l)) changes_are) in
    let more : take (i + 1) all ≡ take i all ++ change ∷ [] = take_more all i change within ∙ ap (λ (x : Change). take i all ++ x ∷ []) (sym is) in
    record {
      seen = c.in_ok-read_on.ensures
          ∙ ap (read_after change) c.loop-change.invariant.seen
          ∙ sym (read_push first (take i all) change)
          ∙ ap (read_at_end first) (sym more);
      left = c.in_ok-pick_on.ensures
          ∙ ap (λ (l : List ℕ). left_after pick change l c.loop-change.left.items) c.deref-in-loop-change.ensures.value
          ∙ (λ j. left_after pick change (c.loop-change.invariant.seen j) (c.loop-change.invariant.left j))
          ∙ sym (left_push pick first first (take i all) change)
          ∙ ap (picked pick first) (sym more);
    }

pub returns-clause-left : goal.returns-clause-left
returns-clause-left c =
    let old : Held = c.args.self.now in
    let first : List ℕ = c.args.self.now.first in
    let pick = c.args.pick in
    let n : ℕ = c.min-count.result in
    let i : ℕ = c.loop-change.change-index in
    let all : List Change = take n c.args.self.now.changes in
    let places : AreWithin old.first old.changes = subst (λ (d : Held). AreWithin d.first d.changes) c.self.view_is c.self.invariant.places in
    let same : length c.self.inside.changes.items ≡ length old.changes = ap (λ (d : Held). length d.changes) c.self.view_is in
    let changes_are : c.deref.result.now ≡ old.changes = c.deref.ensures.value ∙ ap (λ (d : Held). d.changes) c.self.view_is in
    let count : n ≡ min c.args.moment (length old.changes) = omega (arith, c.min-count.ensures, c.len.ensures, same) in
    let whole : take i all ≡ all = take_all i all (omega (arith, c.loop-change-test.false, ap (λ (l : List Change). length (take n l)) changes_are)) in
    let left_is : c.loop-change.left.items ≡ picked pick first all = c.loop-change.invariant.left ∙ ap (picked pick first) whole in
    let at = subst (λ (l : List ℕ). left_at old n l) (sym left_is) (picked_at pick first old.changes n places (omega (arith, count))) in
    IfOk-weaker c.of.result (λ disk. disk ≡ made c.deref-2.result.now []) (λ disk. left_at old (min c.args.moment (length old.changes)) disk.bytes)
    (λ disk is. subst (λ (l : List ℕ). left_at old (min c.args.moment (length old.changes)) l) (sym (ap (λ (d : Held). d.bytes) is ∙ c.deref-2.ensures.value)) (subst (λ (k : ℕ). left_at old k c.loop-change.left.items) count at))
    c.of.ensures
