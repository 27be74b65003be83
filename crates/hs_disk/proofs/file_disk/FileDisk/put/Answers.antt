use Rattle.std.proofs.Common.{ℕ, List, take, Some, ap, ◌∙◌, subst}
use Rattle.hs_disk.specs.HostFile.{Puts}
use Rattle.hs_disk.specs.OpenFile.{OpenFile, shown}
use Rattle.hs_disk.proofs.FileLemmas.{shown-puts}
use Rattle.hs_disk.proofs.file_disk.FileDisk.put.Goals as goal

pub returns-clause-puts : goal.returns-clause-puts
returns-clause-puts g c =
    let holds = g.F.HostFile.holds in
    let inside = c.self.inside in
    let bytes : List ℕ = c.args.bytes.now in
    let puts = shown-puts c.args.at inside.len c.in_ok-end.end bytes (holds inside.file) (holds c.write_all.new.file) (shown c.reach.new.self) c.in_ok-end.ensures.ends.0 c.in_ok-end.ensures.puts
    (λ held is within. c.reach.ensures.kept held is within ∙ ap (λ (n : ℕ). Some (take n held)) c.reach.ensures.grew.len) in
    subst (λ (file : OpenFile). Puts c.args.at bytes (shown file) (shown c.reach.new.self)) c.self.view_is puts
