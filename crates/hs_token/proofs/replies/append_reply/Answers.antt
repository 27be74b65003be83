use Rattle.std.proofs.Common.{arith}
use Rattle.hs_token.proofs.ReplyLemmas.{reply_whole}
use Rattle.hs_token.proofs.replies.append_reply.Goals as goal

pub returns-clause-ok : goal.returns-clause-ok
returns-clause-ok c =
    reply_whole c.args.out.now.items c.append_head.new.out.items c.append_behind_tabs.new.out.items c.push.new.self.items c.args.code c.args.columns c.args.tokens.now (omega (arith, c.ranges.code)) (omega (arith, c.ranges.columns)) c.in_ok-append_head.ensures.ok c.in_ok-append_behind_tabs.ensures.ok c.in_ok-push.ensures.items
