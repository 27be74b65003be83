-- Lines on the error output that are given in parts.
use Rattle.std.proofs.Common.{◌≡◌, ◌∙◌, ℕ, List, ◌++◌, Result, sym, append_assoc, arith}
use Rattle.hs_outside.specs.Streams.{Giver, Taker, Grew, GrewPart, SendDoes}
use Rattle.hs_schema.specs.declared.faults.SchemaRule.{SchemaRule}
use Rattle.hs_replay.specs.declared.ends.Flaw.{Flaw}
use Rattle.hs_replay.specs.declared.ends.Flaw.TheVariants.{NoEvent, BadTable}
use Rattle.hs_replay.specs.Script.{bad_line}
use Rattle.hs_replay.specs.Ends.{HasBadLine, Said, flaw_line, flaw_status, script_line, schema_line}
use Rattle.hs_outside.proofs.Known.{grew_as, grew_two, part_as, part_more, part_two, sent_two}

-- two parts were given, then two more, and a fifth is to be
pub sent_last : {U F : Type 0} (sent : Result U F) (o p q r : Taker) (a b c d e : List ℕ) → Grew o p (a ++ b) → p.faults ≡ o.faults → Grew p q (c ++ d) → q.faults ≡ p.faults
    → SendDoes sent q r e → SendDoes sent o r (a ++ b ++ c ++ d ++ e)
sent_last sent o p q r a b c d e first same second still sends =
    let four : Grew o q (a ++ b ++ c ++ d) = grew_as o q _ _ (sym (append_assoc (a ++ b) c d)) (grew_two o p q (a ++ b) (c ++ d) first second) in
    sent_two sent o q r (a ++ b ++ c ++ d) e four (still ∙ same) sends

-- two parts were given, and a front of the next two
pub part_between : (o p q : Taker) (a b c d e : List ℕ) → Grew o p (a ++ b) → GrewPart p q (c ++ d) → GrewPart o q (a ++ b ++ c ++ d ++ e)
part_between o p q a b c d e first part =
    part_more o q (a ++ b ++ c ++ d) e (part_as o q _ _ (sym (append_assoc (a ++ b) c d)) (part_two o p q (a ++ b) (c ++ d) first part))

-- a front of the first two
pub part_before : (o p : Taker) (a b c d e : List ℕ) → GrewPart o p (a ++ b) → GrewPart o p (a ++ b ++ c ++ d ++ e)
part_before o p a b c d e part = part_more o p (a ++ b ++ c ++ d) e (part_more o p (a ++ b ++ c) d (part_more o p (a ++ b) c part))

-- ---- by what is bad about a line

pub table_ends : (k : ℕ) (flaw : Flaw) (s u : Giver) (o q e f : Taker) → HasBadLine (bad_line k flaw) s u o q → Said e f (flaw_line k flaw) → flaw_status flaw ≡ 3
    → (n : ℕ) × (rule : SchemaRule) × (token : ℕ) × HasBadLine (bad_line n (BadTable rule token)) s u o q × Said e f (schema_line n rule token)
table_ends k NoEvent s u o q e f has said three = absurd (omega (arith, three))
table_ends k (BadTable rule token) s u o q e f has said three = (k, rule, token, has, said)

pub line_ends : (k : ℕ) (flaw : Flaw) (s u : Giver) (o q e f : Taker) → HasBadLine (bad_line k flaw) s u o q → Said e f (flaw_line k flaw) → flaw_status flaw ≡ 4
    → (n : ℕ) × HasBadLine (bad_line n NoEvent) s u o q × Said e f (script_line n)
line_ends k NoEvent s u o q e f has said four = (k, has, said)
line_ends k (BadTable rule token) s u o q e f has said four = absurd (omega (arith, four))
