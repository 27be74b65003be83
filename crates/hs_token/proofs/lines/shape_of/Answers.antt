use Rattle.std.proofs.Common.{◌≡◌, ◌∙◌, ℕ, ◌+◌, Bool, ◌||◌, true, false, get_or, length, drop, sym, ap, arith}
use Rattle.hs_token.specs.Reading.{is_bad, fields_of}
use Rattle.hs_token.specs.Steps.{has_escape}
use Rattle.hs_token.proofs.Cases.{plain_is_good}
use Rattle.hs_token.proofs.Places.{stops, goes_on}
use Rattle.hs_token.proofs.Pieces.{fields_some, fields_le, counts_on, escapes_on, no_tabs, same_flag}
use Rattle.hs_token.proofs.LineLemmas.{bytes_list}
use Rattle.hs_token.proofs.lines.shape_of.Goals as goal
use Rattle.hs_token.proofs.lines.shape_of.Goals.{then-byte-lt-PLAIN+else-is_bad, else-byte-lt-PLAIN}

pub returns-then-is_bad-clause-bad : goal.returns-then-is_bad-clause-bad
returns-then-is_bad-clause-bad c =
    let line = c.args.line.now in
    let place = c.loop-place.place in
    let before = c.loop-place.before in
    let bad : is_bad before (get_or line place 0) (get_or line (place + 1) 9) ≡ true =
    ap (is_bad before (get_or line place 0)) (sym c.byte_after.ensures) ∙ (sym c.is_bad.ensures ∙ c.if-is_bad.true) in
    sym c.loop-place.invariant.bad ∙ stops line place before c.loop-place-test.true bad

pub returns-then-is_bad-clause-bytes : goal.returns-then-is_bad-clause-bytes
returns-then-is_bad-clause-bytes c = bytes_list c.args.line.now (λ i. omega (arith, c.type_inv.line i))

pub with_byte-shape-requires : goal.with_byte-shape-requires
with_byte-shape-requires c =
    omega (arith, c.loop-place.invariant.tokens, fields_some (drop c.loop-place.place c.args.line.now), fields_le c.args.line.now)

pub returns-clause-bytes : goal.returns-clause-bytes
returns-clause-bytes c = bytes_list c.args.line.now (λ i. omega (arith, c.type_inv.line i))

pub loop-place-preserved : goal.loop-place-preserved
loop-place-preserved c =
    let line = c.args.line.now in
    let place = c.loop-place.place in
    let before = c.loop-place.before in
    let shape = c.loop-place.shape in
    let rest = drop (place + 1) line in
    let tokens = counts_on line place shape.tokens _ c.loop-place-test.true c.loop-place.invariant.tokens in
    let escape = escapes_on line place shape.has_escape _ c.loop-place-test.true c.loop-place.invariant.escape in
    elim c.if-byte-lt-PLAIN.branch [
      | then-byte-lt-PLAIN+else-is_bad w ↦
          let good : is_bad before (get_or line place 0) (get_or line (place + 1) 9) ≡ false =
          ap (is_bad before (get_or line place 0)) (sym w.byte_after.ensures) ∙ (sym w.is_bad.ensures ∙ w.if-is_bad.false) in
          let bad = sym (goes_on line place before c.loop-place-test.true good) ∙ c.loop-place.invariant.bad in
          rw (w.shape-is, w.before-is) record {
            bad = bad;
            tokens = ap (λ (n : ℕ). n + length (fields_of rest)) w.with_byte-shape.ensures.tokens ∙ tokens;
            escape = ap (λ (flag : Bool). flag || has_escape rest) w.with_byte-shape.ensures.escape ∙ escape;
          }
      | else-byte-lt-PLAIN w ↦
          let good = plain_is_good before (get_or line place 0) (get_or line (place + 1) 9) w.if-byte-lt-PLAIN.false in
          let bad = sym (goes_on line place before c.loop-place-test.true good) ∙ c.loop-place.invariant.bad in
          let none = no_tabs (get_or line place 0) w.if-byte-lt-PLAIN.false in
          let same = same_flag shape.has_escape (get_or line place 0) w.if-byte-lt-PLAIN.false in
          rw (w.shape-is, w.before-is) record {
            bad = bad;
            tokens = omega (arith, tokens, none);
            escape = ap (λ (flag : Bool). flag || has_escape rest) (sym same) ∙ escape;
          }
    ]
