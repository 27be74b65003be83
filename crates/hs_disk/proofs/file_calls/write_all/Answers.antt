use Rattle.std.proofs.Common.{◌+◌, ◌-◌, ℕ, length, take, drop, sym, subst, arith, length-take}
use Rattle.hs_disk.specs.HostFile.{Puts}
use Rattle.hs_disk.proofs.FileLemmas.{front-puts, puts-on}
use Rattle.hs_disk.proofs.file_calls.write_all.Goals as goal
use Rattle.hs_disk.proofs.file_calls.write_all.Goals.{in-Ok+else-count-eq0, in-Err}

pub returns-then-count-eq0-clause-err : goal.returns-then-count-eq0-clause-err
returns-then-count-eq0-clause-err g c =
    let holds = g.F.HostFile.holds in
    let put : ℕ = c.loop.put in
    front-puts c.args.at (take (put + c.in-Ok.count) c.args.bytes.now) (holds c.args.file.now) (holds c.write_at.new.self)
    (puts-on c.args.at c.args.bytes.now put c.in-Ok.count (holds c.args.file.now) (holds c.loop.file) (holds c.write_at.new.self) c.loop.invariant.within c.loop.invariant.puts c.in-Ok.ensures.puts)

pub loop-preserved : goal.loop-preserved
loop-preserved g c =
    let holds = g.F.HostFile.holds in
    let put : ℕ = c.loop.put in
    elim c.match-write_at.branch [
      | in-Ok+else-count-eq0 w ↦
          let part = puts-on c.args.at c.args.bytes.now put w.in-Ok.count (holds c.args.file.now) (holds c.loop.file) (holds c.write_at.new.self) c.loop.invariant.within c.loop.invariant.puts w.in-Ok.ensures.puts in
          rw w.put-is record {
            within = omega (arith, w.in-Ok.ensures.bound, length-take (length c.args.bytes.now - put) (drop put c.args.bytes.now), c.loop.invariant.within);
            puts = part;
          }
      | in-Err w ↦
          let kept = subst (Puts c.args.at (take put c.args.bytes.now) (holds c.args.file.now)) (sym w.in-Err.ensures.err) c.loop.invariant.puts in
          rw w.put-is record { within = c.loop.invariant.within; puts = kept }
    ]
