use Rattle.std.proofs.Common.{◌∙◌, ap}
use Rattle.request_types.specs.Code.{text_of}
use Rattle.request_types.proofs.CodeFacts.{text_is}
use Rattle.request_types.proofs.codes.Code.text.Goals as goal

pub returns : goal.returns
returns c = c.text_of.ensures ∙ (ap text_of c.number.ensures ∙ text_is c.args.self)
