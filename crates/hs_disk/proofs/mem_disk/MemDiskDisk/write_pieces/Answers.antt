use Rattle.std.proofs.Common.{◌≡◌, List, ◌++◌, Bool, true, false, ◌||◌, ℕ, length, sym, subst, ap, ◌∙◌}
use Rattle.std.specs.Prelude.{if◌then◌else◌}
use Rattle.hs_disk.specs.Disk.{written}
use Rattle.hs_disk.specs.Held.{FailsWith, is_to_fail, lost_write, carried_out}
use Rattle.hs_disk.specs.Length.{past_end}
use Rattle.hs_disk.specs.declared.change.Change.{Change}
use Rattle.hs_disk.specs.declared.change.Change.TheVariants.{Lost, LostWrite, Wrote}
use Rattle.hs_disk.proofs.WriteLemmas.{failed_writes, done_writes}
use Rattle.hs_disk.proofs.mem_disk.MemDiskDisk.write_pieces.Goals as goal

pub returns-in_default-clause-writes : goal.returns-in_default-clause-writes
returns-in_default-clause-writes c =
    let at = c.args.at in
    let bytes = c.args.head.now ++ c.args.body.now ++ c.args.tail.now in
    let old = c.args.self.now in
    let new = c.fail.new.self in
    let past : past_end at (length bytes) ≡ true = c.in_default.ensures in
    let change : Lost ≡ lost_write at (length bytes) = ap (λ (b : Bool). if b then Lost else LostWrite at (length bytes)) (sym past) in
    failed_writes at bytes old new c.fail.result (subst (λ (change : Change). FailsWith change old new) change c.fail.ensures.new) c.fail.ensures.was_sound c.fail.ensures.sound (ap (λ (b : Bool). b || is_to_fail old || new.short) past)

pub returns-then-is_to_fail-clause-writes : goal.returns-then-is_to_fail-clause-writes
returns-then-is_to_fail-clause-writes c =
    let at = c.args.at in
    let bytes = c.args.head.now ++ c.args.body.now ++ c.args.tail.now in
    let old = c.args.self.now in
    let new = c.fail-then-is_to_fail.new.self in
    let within : past_end at (length bytes) ≡ false = ap (past_end at) (sym c.in-Some.ensures.0) ∙ c.in-Some.ensures.1 in
    let named : is_to_fail old ≡ true = sym c.if-is_to_fail.ensures.fails in
    let change : LostWrite at c.in-Some.len ≡ lost_write at (length bytes) = ap (LostWrite at) c.in-Some.ensures.0 ∙ ap (λ (b : Bool). if b then Lost else LostWrite at (length bytes)) (sym within) in
    failed_writes at bytes old new c.fail-then-is_to_fail.result (subst (λ (change : Change). FailsWith change old new) change c.fail-then-is_to_fail.ensures.new) c.fail-then-is_to_fail.ensures.was_sound c.fail-then-is_to_fail.ensures.sound (λ i. within i || named i || new.short)

pub returns-in-Ok-try_write-clause-writes : goal.returns-in-Ok-try_write-clause-writes
returns-in-Ok-try_write-clause-writes c =
    let at = c.args.at in
    let bytes = c.args.head.now ++ c.args.body.now ++ c.args.tail.now in
    let old = c.args.self.now in
    let new = c.try_write.new.self in
    let within : past_end at (length bytes) ≡ false = ap (past_end at) (sym c.in-Some.ensures.0) ∙ c.in-Some.ensures.1 in
    let is : new ≡ carried_out old (Wrote at bytes) (written at bytes old.bytes) = c.in-Ok-try_write.ensures.ok ∙ ap (λ (l : List ℕ). carried_out old (Wrote at l) (written at l old.bytes)) c.in-Ok.ensures in
    done_writes at bytes old new tt is c.is_to_fail.ensures.sound c.try_write.ensures.sound within (sym c.if-is_to_fail.ensures.fails)
