use Rattle.std.proofs.Common.{◌≡◌, ◌-◌, ◌≤◌, ◌++◌, ◌∙◌, ℕ, List, length, take, drop, ap, arith, length-append, length-take, length-drop}
use Rattle.std.proofs.lemmas.List.{length-take-le}
use borrow.Rule.Slice.PartMut.{put_mid}
use Rattle.hs_disk.proofs.FileLemmas.{filled-from, read-on, read-kept}
use Rattle.hs_disk.proofs.file_calls.fill.Goals as goal
use Rattle.hs_disk.proofs.file_calls.fill.Goals.{in-Ok+else-count-eq0, in-Err}

pub loop-preserved : goal.loop-preserved
loop-preserved g c =
    let holds = g.F.HostFile.holds in
    let got : ℕ = c.loop.got in
    let old : List ℕ = c.loop.buf in
    let piece : List ℕ = c.read_at.new.buf in
    let within : got ≤ length old = c.loop.invariant.within in
    let size : length piece ≡ length old - got = omega (arith, c.read_at.auto.buf, length-take (length old - got) (drop got old), length-drop got old) in
    let is : put_mid got (length old - got) old piece ≡ take got old ++ piece = filled-from got old piece within size in
    let all : length (put_mid got (length old - got) old piece) ≡ length old = ap length is ∙ length-append (take got old) piece ∙ omega (arith, length-take-le got old within, size, within) in
    elim c.match-read_at.branch [
      | in-Ok+else-count-eq0 w ↦ rw w.got-is record {
        within = omega (arith, all, w.in-Ok.ensures.bound, size, within);
        kept = c.read_at.ensures.kept ∙ c.loop.invariant.kept;
        len = all ∙ c.loop.invariant.len;
        read = read-on c.args.at got w.in-Ok.count (holds c.args.file.now) (holds c.loop.file) old piece _ c.loop.invariant.kept within is c.loop.invariant.read w.in-Ok.ensures.told;
      }
      | in-Err w ↦ rw w.got-is record {
        within = omega (arith, all, within);
        kept = c.read_at.ensures.kept ∙ c.loop.invariant.kept;
        len = all ∙ c.loop.invariant.len;
        read = read-kept c.args.at got (holds c.args.file.now) old piece _ within is c.loop.invariant.read;
      }
    ]
