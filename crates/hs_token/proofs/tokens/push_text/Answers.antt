use Rattle.std.proofs.Common.{◌∙◌, ◌++◌, List, ℕ, sym, ap, arith, rules}
use Rattle.hs_token.specs.Spelling.{text_spelled}
use Rattle.hs_token.proofs.Texts.{escapes_le, length-text_spelled, spelled_plain}
use Rattle.hs_token.proofs.tokens.push_text.Goals as goal

pub returns-then-escapes-eq0-clause-ok : goal.returns-then-escapes-eq0-clause-ok
returns-then-escapes-eq0-clause-ok c =
    let none = sym c.count_escapes-escapes.ensures ∙ c.if-escapes-eq0.true in
    rw (spelled_plain c.args.text.now none) (search rules)

pub overflow_add-text : goal.overflow_add-text
overflow_add-text c = omega (arith, c.count_escapes-escapes.ensures, escapes_le c.args.text.now)

pub loop-byte-init : goal.loop-byte-init
loop-byte-init c = record {
  written = ap (λ (l : List ℕ). l ++ text_spelled c.args.text.now) c.in_ok-reserve.ensures.items;
  room = omega (arith, c.in_ok-reserve.ensures.ok, c.in_ok-reserve.ensures.len, c.count_escapes-escapes.ensures, length-text_spelled c.args.text.now);
}
