use Rattle.std.proofs.Common.{◌≡◌, ◌-◌, ◌++◌, ◌≤◌, ◌∙◌, ap, length-append, length-take, length-drop, ℕ, List, IfSome, IfOk, min, length, drop, subst, arith}
use borrow.Rule.Slice.PartMut.{put_mid}
use Rattle.hs_disk.specs.HostFile.{ReadsAll}
use Rattle.hs_disk.specs.OpenFile.{OpenFile, shown}
use Rattle.hs_disk.proofs.FileLemmas.{filled-to, handed-on, shown-reads}
use Rattle.hs_disk.proofs.file_disk.FileDiskDisk.read.Goals as goal

pub returns-clause-told : goal.returns-clause-told
returns-clause-told g c =
    let inside = c.self.inside in
    let count : ℕ = c.min-count.result in
    let buf : List ℕ = put_mid 0 count c.args.buf.now c.fill-answer.new.buf in
    let few : count ≤ length c.args.buf.now = omega (arith, c.min-count.ensures) in
    let size : length c.fill-answer.new.buf ≡ count = omega (arith, c.fill-answer.ensures.len, length-take count c.args.buf.now, few) in
    let parts : buf ≡ c.fill-answer.new.buf ++ drop count c.args.buf.now = filled-to count c.args.buf.now c.fill-answer.new.buf few size in
    let whole : length buf ≡ length c.args.buf.now =
    ap length parts ∙ length-append c.fill-answer.new.buf (drop count c.args.buf.now) ∙ omega (arith, size, length-drop count c.args.buf.now, few) in
    let count_is : count ≡ min (length buf) (inside.len - c.args.at) = omega (arith, whole, c.min-count.ensures, c.saturating_sub.ensures) in
    subst (λ (file : OpenFile). IfOk c.counted.result (λ n. IfSome (shown file) (λ seen. ReadsAll c.args.at n seen buf))) c.self.view_is
    (handed-on c.fill-answer.result c.counted.result (λ n. IfSome (g.F.HostFile.holds inside.file) (λ held. ReadsAll c.args.at n held c.fill-answer.new.buf)) _ c.counted.ensures.ok
    (λ n told. shown-reads c.args.at inside.len count n (g.F.HostFile.holds inside.file) c.fill-answer.new.buf buf (drop count c.args.buf.now) count_is size parts told)
    c.fill-answer.ensures.told)
