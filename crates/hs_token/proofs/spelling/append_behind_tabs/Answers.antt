use Rattle.hs_token.proofs.ReplyLemmas.{extends_more, on_err}
use Rattle.hs_token.proofs.spelling.append_behind_tabs.Goals as goal

pub returns-in_err-append_behind_tab-clause-err : goal.returns-in_err-append_behind_tab-clause-err
returns-in_err-append_behind_tab-clause-err c =
    on_err c.from_residual.result _ (extends_more c.args.out.now.items c.loop-token.out.items c.append_behind_tab.new.out.items c.loop-token.invariant.front c.in_err-append_behind_tab.ensures.err)
