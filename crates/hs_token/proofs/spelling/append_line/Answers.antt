use Rattle.hs_token.proofs.ReplyLemmas.{line_written}
use Rattle.hs_token.proofs.spelling.append_line.Goals as goal

pub returns-in_ok-push_token-in-len1-up-clause-ok : goal.returns-in_ok-push_token-in-len1-up-clause-ok
returns-in_ok-push_token-in-len1-up-clause-ok c =
    line_written c.append_behind_tabs.result c.args.tokens.now c.first-item.result c.args.out.now.items c.push_token.new.out.items c.append_behind_tabs.new.out.items c.in-len1-up.len_at_least c.first-item.is c.in_ok-push_token-in-len1-up.ensures.ok c.append_behind_tabs.ensures.ok
