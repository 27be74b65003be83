use Rattle.std.proofs.Common.{◌≡◌, true, List, ◌++◌, sym, ap, subst, ◌∙◌}
use Rattle.std.proofs.lemmas.Bool.{true≢false}
use Rattle.row_types.specs.declared.values.Value.{Value}
use Rattle.table_rows.specs.Entries.{Entry, has_key}
use Rattle.find_scan.specs.Gathering.{AreWideFor, gives, front_of}
use Rattle.find_scan.proofs.Gathered.{front_first}
use Rattle.find_scan.proofs.walking.gather.Goals as goal
use Rattle.find_scan.proofs.walking.gather.Goals.{else-front-via-then-front+else-not-has_key, else-front-via-else-front}

pub loop-walk-preserved : goal.loop-walk-preserved
loop-walk-preserved c =
    let front = c.args.front.now in
    let filters = c.args.filters.now in
    let entry : Entry = (c.in-Some.row.now, c.in-Some.slot.0) in
    let rest = c.next.new.self in
    let has : front.is_asked ≡ true → has_key front.parts.now front.key.now c.in-Some.row.now ≡ true = elim c.else-front.branch [
      | else-front-via-then-front+else-not-has_key w ↦ λ asked.
          ap (λ (row : List Value). has_key front.parts.now front.key.now row) (sym w.as_slice.ensures) ∙ sym w.has_key.ensures ∙ w.if-not-has_key.false
      | else-front-via-else-front w ↦ λ asked. absurd (true≢false (sym asked ∙ w.if-front.false))
    ] in
    record {
      wide = (subst (AreWideFor filters) c.in-Some.ensures c.loop-walk.invariant.wide).1;
      given = λ later.
          c.in_ok-offer.ensures (front_of front.is_asked front.parts.now front.key.now rest ++ later)
          ∙ ap (λ (es : List Entry). gives filters c.loop-walk.selection (es ++ later)) (sym (front_first front.is_asked front.parts.now front.key.now entry rest has))
          ∙ ap (λ (es : List Entry). gives filters c.loop-walk.selection (front_of front.is_asked front.parts.now front.key.now es ++ later)) (sym c.in-Some.ensures)
          ∙ c.loop-walk.invariant.given later;
    }
