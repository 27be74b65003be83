use Rattle.std.proofs.Common.{◌≡◌, ◌+◌, ◌-◌, ◌<◌, ℕ, drop, length, take, arith, subst}
use Rattle.std.proofs.lemmas.List.{length-take, length-drop}
use Rattle.hs_replay.specs.Running.{Leads}
use Rattle.hs_replay.proofs.Runs.{gone_on, splits, ends_bad, ends_unwritten, ends_memory, ends_beyond, ends_at_end, ends_before, way_at_start, ends_unread}
use Rattle.hs_replay.proofs.running.run.Goals as goal

pub returns-in-Bad-clause-ends : goal.returns-in-Bad-clause-ends
returns-in-Bad-clause-ends g c =
    ends_bad (g.S.Source.giver c.args.script.now) (g.S.Source.giver c.loop-count.script) (g.S.Source.giver c.read.new.self)
    (g.K.Sink.taker c.args.out.now) (g.K.Sink.taker c.loop-count.out) (g.K.Sink.taker c.take_piece.new.out) c.loop-count.runner c.take_piece.new.self
    (take c.in-Got.count c.read.new.buffer) (take c.fitting-fits.result c.read.new.buffer) (drop c.fitting-fits.result (take c.in-Got.count c.read.new.buffer)) c.loop-count.left (c.loop-count.left - c.fitting-fits.result)
    c.loop-count.invariant (splits c.read.new.buffer c.in-Got.count c.loop-count.left c.fitting-fits.result c.in-Got.ensures.gives.1 c.fitting-fits.ensures)
    c.in-Got.ensures.gives.2 c.in-Got.ensures.gives.4 c.in-Bad.line c.in-Bad.ensures.does

pub returns-in-Unwritten-clause-ends : goal.returns-in-Unwritten-clause-ends
returns-in-Unwritten-clause-ends g c =
    ends_unwritten (g.S.Source.giver c.args.script.now) (g.S.Source.giver c.loop-count.script) (g.S.Source.giver c.read.new.self)
    (g.K.Sink.taker c.args.out.now) (g.K.Sink.taker c.loop-count.out) (g.K.Sink.taker c.take_piece.new.out) c.loop-count.runner c.take_piece.new.self
    (take c.in-Got.count c.read.new.buffer) (take c.fitting-fits.result c.read.new.buffer) (drop c.fitting-fits.result (take c.in-Got.count c.read.new.buffer)) c.loop-count.left (c.loop-count.left - c.fitting-fits.result)
    c.loop-count.invariant (splits c.read.new.buffer c.in-Got.count c.loop-count.left c.fitting-fits.result c.in-Got.ensures.gives.1 c.fitting-fits.ensures)
    c.in-Got.ensures.gives.2 c.in-Got.ensures.gives.4 c.in-Unwritten.ensures.does

pub returns-in-Memory-clause-ends : goal.returns-in-Memory-clause-ends
returns-in-Memory-clause-ends g c =
    ends_memory (g.S.Source.giver c.args.script.now) (g.S.Source.giver c.loop-count.script) (g.S.Source.giver c.read.new.self)
    (g.K.Sink.taker c.args.out.now) (g.K.Sink.taker c.loop-count.out) (g.K.Sink.taker c.take_piece.new.out) c.loop-count.runner c.take_piece.new.self
    (take c.in-Got.count c.read.new.buffer) (take c.fitting-fits.result c.read.new.buffer) (drop c.fitting-fits.result (take c.in-Got.count c.read.new.buffer)) c.loop-count.left (c.loop-count.left - c.fitting-fits.result)
    c.loop-count.invariant (splits c.read.new.buffer c.in-Got.count c.loop-count.left c.fitting-fits.result c.in-Got.ensures.gives.1 c.fitting-fits.ensures)
    c.in-Got.ensures.gives.2 c.in-Got.ensures.gives.4 c.in-Memory.ensures.does

pub returns-then-fits-count-clause-ends : goal.returns-then-fits-count-clause-ends
returns-then-fits-count-clause-ends g c =
    let buffer = c.read.new.buffer in
    let fits = c.fitting-fits.result in
    let more : c.loop-count.left - fits ≡ 0 = omega (arith, c.fitting-fits.ensures, c.if-fits-count.true) in
    let over : 0 < length (drop fits (take c.in-Got.count buffer)) =
    omega (arith, length-drop fits (take c.in-Got.count buffer), length-take c.in-Got.count buffer, c.in-Got.ensures.gives.1, c.if-fits-count.true) in
    ends_beyond (g.S.Source.giver c.args.script.now) (g.S.Source.giver c.loop-count.script) (g.S.Source.giver c.read.new.self)
    (g.K.Sink.taker c.args.out.now) (g.K.Sink.taker c.loop-count.out) (g.K.Sink.taker c.take_piece.new.out) c.loop-count.runner c.take_piece.new.self
    (take c.in-Got.count buffer) (take fits buffer) (drop fits (take c.in-Got.count buffer)) c.loop-count.left (c.loop-count.left - fits)
    c.loop-count.invariant (splits buffer c.in-Got.count c.loop-count.left fits c.in-Got.ensures.gives.1 c.fitting-fits.ensures)
    c.in-Got.ensures.gives.2 c.in-Got.ensures.gives.4 c.next_bad.result more over c.in-Done.ensures.does (c.take_piece.ensures.drained c.in-Done.is) c.next_bad.ensures

pub loop-count-preserved : goal.loop-count-preserved
loop-count-preserved g c =
    let buffer = c.read.new.buffer in
    let whole : c.fitting-fits.result ≡ c.in-Got.count = omega (arith, c.fitting-fits.ensures, c.if-fits-count.false) in
    let counts : length (take c.in-Got.count buffer) + (c.loop-count.left - c.in-Got.count) ≡ c.loop-count.left =
    omega (arith, length-take c.in-Got.count buffer, c.in-Got.ensures.gives.1, c.fitting-fits.ensures, whole) in
    gone_on (g.S.Source.giver c.args.script.now) (g.S.Source.giver c.loop-count.script) (g.S.Source.giver c.read.new.self)
    (g.K.Sink.taker c.args.out.now) (g.K.Sink.taker c.loop-count.out) (g.K.Sink.taker c.take_piece.new.out) c.loop-count.runner c.take_piece.new.self
    (take c.in-Got.count buffer) c.loop-count.left (c.loop-count.left - c.in-Got.count) c.loop-count.invariant counts c.in-Got.ensures.gives.2 c.in-Got.ensures.gives.4
    (subst (λ (n : ℕ). Leads c.loop-count.runner c.take_piece.new.self (g.K.Sink.taker c.loop-count.out) (g.K.Sink.taker c.take_piece.new.out) (take n buffer)) whole c.in-Done.ensures.does)
    (c.take_piece.ensures.drained c.in-Done.is) (c.take_piece.ensures.room c.in-Done.is)

pub returns-in-End-clause-ends : goal.returns-in-End-clause-ends
returns-in-End-clause-ends g c =
    ends_at_end (g.S.Source.giver c.args.script.now) (g.S.Source.giver c.loop-count.script) (g.K.Sink.taker c.args.out.now) (g.K.Sink.taker c.loop-count.out) c.loop-count.runner c.loop-count.left
    c.loop-count.invariant c.ending.result (g.S.Source.giver c.read.new.self) c.in-End.ensures.gives c.ending.ensures

pub returns-in_default-clause-ends : goal.returns-in_default-clause-ends
returns-in_default-clause-ends g c = ends_before (g.S.Source.giver c.args.script.now) (g.K.Sink.taker c.args.out.now)

pub loop-count-init : goal.loop-count-init
loop-count-init g c = way_at_start (g.S.Source.giver c.args.script.now) (g.K.Sink.taker c.args.out.now) c.in-Ok.runner c.in-Ok.ensures

pub returns-in-Failed-clause-ends : goal.returns-in-Failed-clause-ends
returns-in-Failed-clause-ends g c =
    ends_unread (g.S.Source.giver c.args.script.now) (g.S.Source.giver c.loop-count.script) (g.K.Sink.taker c.args.out.now) (g.K.Sink.taker c.loop-count.out) c.loop-count.runner c.loop-count.left
    c.loop-count.invariant (g.S.Source.giver c.read.new.self) c.in-Failed.ensures.gives
