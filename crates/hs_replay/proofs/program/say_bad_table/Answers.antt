use Rattle.std.proofs.Common.{ℕ, List, ◌++◌, subst, decimal}
use Rattle.std.specs.Prelude.{codes}
use Rattle.hs_outside.specs.Streams.{Grew, GrewPart}
use Rattle.hs_outside.proofs.Known.{rose_from}
use Rattle.hs_replay.specs.Ends.{rule_word}
use Rattle.hs_replay.proofs.Says.{sent_last, part_between, part_before}
use Rattle.hs_replay.proofs.program.say_bad_table.Goals as goal

pub returns-in-Ok-write_number-clause-sends : goal.returns-in-Ok-write_number-clause-sends
returns-in-Ok-write_number-clause-sends g c =
    let old = g.E.Sink.taker c.args.err.now in
    let between = g.E.Sink.taker c.write_number.new.err in
    let behind = g.E.Sink.taker c.write_number-in-Ok.new.err in
    let second = subst (λ (w : List ℕ). Grew between behind (w ++ decimal c.args.token)) c.rule_word.ensures c.in-Ok-write_number.ensures.sends.0 in
    sent_last c.write_all.result old between behind (g.E.Sink.taker c.write_all.new.sink)
    (codes "schema line ") (decimal c.args.number) (rule_word c.args.rule) (decimal c.args.token) (codes "\n")
    c.in-Ok.ensures.sends.0 c.in-Ok.ensures.sends.1 second c.in-Ok-write_number.ensures.sends.1 c.write_all.ensures.sends

pub returns-in-Err-write_number-clause-sends : goal.returns-in-Err-write_number-clause-sends
returns-in-Err-write_number-clause-sends g c =
    let old = g.E.Sink.taker c.args.err.now in
    let between = g.E.Sink.taker c.write_number.new.err in
    let behind = g.E.Sink.taker c.write_number-in-Ok.new.err in
    let second = subst (λ (w : List ℕ). GrewPart between behind (w ++ decimal c.args.token)) c.rule_word.ensures c.in-Err-write_number.ensures.sends.0 in (
      part_between old between behind (codes "schema line ") (decimal c.args.number) (rule_word c.args.rule) (decimal c.args.token) (codes "\n") c.in-Ok.ensures.sends.0 second,
      rose_from old.faults between.faults behind.faults c.in-Ok.ensures.sends.1 c.in-Err-write_number.ensures.sends.1,
    )

pub returns-in-Err-clause-sends : goal.returns-in-Err-clause-sends
returns-in-Err-clause-sends g c = (
  part_before (g.E.Sink.taker c.args.err.now) (g.E.Sink.taker c.write_number.new.err) (codes "schema line ") (decimal c.args.number)
      (rule_word c.args.rule) (decimal c.args.token) (codes "\n") c.in-Err.ensures.sends.0,
  c.in-Err.ensures.sends.1,
)
