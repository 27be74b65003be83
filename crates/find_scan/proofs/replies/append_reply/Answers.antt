use Rattle.std.proofs.Common.{◌++◌, ◌∷◌, [], ℕ, List, ap, ◌∙◌, arith}
use Rattle.find_scan.specs.Rendering.{rows_at}
use Rattle.find_scan.proofs.Shown.{reply_behind, reply_size}
use Rattle.find_scan.proofs.replies.append_reply.Goals as goal

pub returns-in_ok-push-clause-size : goal.returns-in_ok-push-clause-size
returns-in_ok-push-clause-size c =
    c.in_ok-rendered.ensures.size
    ∙ reply_size c.args.columns.now c.requires.few (rows_at c.args.tables.now c.args.table c.args.slots.now) c.args.out.now.items c.push_head.new.out.items _ c.in_ok-push_head.ensures.ok (omega (arith, c.len-most.ensures, c.args.out.now.ok.0))

pub returns-in_ok-push-clause-whole : goal.returns-in_ok-push-clause-whole
returns-in_ok-push-clause-whole c fits =
    c.in_ok-push.ensures.items ∙ ap (λ (bytes : List ℕ). bytes ++ 10 ∷ []) (c.in_ok-rendered.ensures.whole fits)
    ∙ reply_behind c.args.columns.now c.requires.few (rows_at c.args.tables.now c.args.table c.args.slots.now) c.args.out.now.items c.push_head.new.out.items c.in_ok-push_head.ensures.ok

pub returns-else-eq-clause-size : goal.returns-else-eq-clause-size
returns-else-eq-clause-size c =
    c.in_ok-rendered.ensures.size
    ∙ reply_size c.args.columns.now c.requires.few (rows_at c.args.tables.now c.args.table c.args.slots.now) c.args.out.now.items c.push_head.new.out.items _ c.in_ok-push_head.ensures.ok (omega (arith, c.len-most.ensures, c.args.out.now.ok.0))
