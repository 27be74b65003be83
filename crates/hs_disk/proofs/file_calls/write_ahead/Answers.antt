use Rattle.std.proofs.Common.{arith}
use Rattle.hs_disk.proofs.FileLemmas.{ahead-stops, ahead-on}
use Rattle.hs_disk.proofs.file_calls.write_ahead.Goals as goal

pub loop-preserved : goal.loop-preserved
loop-preserved g c =
    let holds = g.F.HostFile.holds in record {
      from = omega (arith, c.loop.invariant.from, c.in-Ok.ensures.ends.0);
      ahead = ahead-on c.args.from c.loop.end c.in-Ok.next _ (holds c.args.file.now) (holds c.loop.file) (holds c.write_all.new.file) c.loop.invariant.from c.in-Ok.ensures.ends.0 c.loop.invariant.ahead c.in-Ok.ensures.puts;
    }

pub returns-in_default-clause-kept : goal.returns-in_default-clause-kept
returns-in_default-clause-kept g c =
    let holds = g.F.HostFile.holds in
    ahead-stops c.args.from c.loop.end (holds c.args.file.now) (holds c.loop.file) (holds c.write_all.new.file) c.loop.invariant.from c.loop.invariant.ahead c.in_default.ensures.err
