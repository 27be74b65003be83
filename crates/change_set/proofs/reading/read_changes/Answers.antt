use Rattle.std.proofs.Common.{ap, subst, ◌∙◌, arith}
use Rattle.change_set.specs.Reading.{Answers, set_of}
use Rattle.change_set.proofs.SetsAgain.{is_payload, payload_again}
use Rattle.change_set.proofs.reading.read_changes.Goals as goal

pub returns-clause-found : goal.returns-clause-found
returns-clause-found c = is_payload c.args.schema.now c.args.bytes.now c.set_in.result (λ i. omega (arith, c.type_inv.bytes i)) c.set_in.ensures

pub returns-clause-only : goal.returns-clause-only
returns-clause-only c = λ changes fits spelled some. subst (λ read. Answers (λ set. set.changes) c.set_in.result read) (ap (set_of c.args.schema.now) spelled ∙ payload_again c.args.schema.now changes c.requires fits some) c.set_in.ensures
