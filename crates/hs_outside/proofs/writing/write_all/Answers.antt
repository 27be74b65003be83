use Rattle.std.proofs.Common.{subst, List, ℕ}
use Rattle.std.proofs.lemmas.List.{append-nil}
use Rattle.hs_outside.specs.Streams.{SendDoes}
use Rattle.hs_outside.proofs.Known.{sent_two}
use Rattle.hs_outside.proofs.writing.write_all.Goals as goal

pub returns-clause-sends : goal.returns-clause-sends
returns-clause-sends g c =
    let old = g.K.Sink.taker c.args.sink.now in
    let mid = g.K.Sink.taker c.write_each.new.sink in
    let new = g.K.Sink.taker c.flush.new.self in
    subst (λ (t : List ℕ). SendDoes c.flush.result old new t) (append-nil c.args.bytes.now)
    (sent_two c.flush.result old mid new c.args.bytes.now _ c.in_ok-write_each.ensures.sends.0 c.in_ok-write_each.ensures.sends.1 c.flush.ensures.sends)
