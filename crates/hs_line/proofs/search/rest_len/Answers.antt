use Rattle.std.proofs.Common.{ℕ, Option, sym, subst}
use Rattle.memchr.specs.Find.{IsLastByte, is_byte}
use Rattle.hs_line.proofs.FirstLines.{rest_of-found, rest_of-found_none}
use Rattle.hs_line.proofs.search.rest_len.Goals as goal

pub returns-in-Some : goal.returns-in-Some
returns-in-Some c =
    sym (rest_of-found c.args.bytes.now c.in-Some.last (subst (λ (r : Option ℕ). IsLastByte (is_byte 10) c.args.bytes.now r) c.in-Some.is c.memrchr.ensures))

pub returns-in-None : goal.returns-in-None
returns-in-None c =
    sym (rest_of-found_none c.args.bytes.now (subst (λ (r : Option ℕ). IsLastByte (is_byte 10) c.args.bytes.now r) c.in-None.is c.memrchr.ensures))
