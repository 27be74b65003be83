use Rattle.hs_disk.proofs.FileLemmas.{puts-three}
use Rattle.hs_disk.proofs.file_calls.write_joined.Goals as goal

pub returns-then-len-clause-puts : goal.returns-then-len-clause-puts
returns-then-len-clause-puts g c =
    let holds = g.F.HostFile.holds in
    puts-three c.write_all-then-len-2.result c.args.at c.in_ok-body_at.body_at c.in_ok-tail_at.tail_at c.args.head.now c.args.body.now c.args.tail.now
    (holds c.args.file.now) (holds c.write_all.new.file) (holds c.write_all-then-len.new.file) (holds c.write_all-then-len-2.new.file)
    c.in_ok-body_at.ensures.ends.0 c.in_ok-tail_at.ensures.ends.0 c.in_ok-body_at.ensures.puts c.in_ok-tail_at.ensures.puts c.write_all-then-len-2.ensures.puts
