use Rattle.std.proofs.Common.{◌∙◌, ◌++◌, ap}
use Rattle.hs_schema.proofs.Joined.{names_written}
use Rattle.hs_schema.proofs.spelling.push_names.Goals as goal

pub returns-in_ok-extend_from_slice-in-len1-up : goal.returns-in_ok-extend_from_slice-in-len1-up
returns-in_ok-extend_from_slice-in-len1-up c =
    names_written c.push_behind_commas.result c.args.columns.now c.args.parts.now c.args.text.now.items c.extend_from_slice.new.self.items c.push_behind_commas.new.text.items c.in-len1-up.len_at_least (c.in_ok-extend_from_slice-in-len1-up.ensures.items ∙ ap (λ name. c.args.text.now.items ++ name) c.name_of.ensures) c.push_behind_commas.ensures
