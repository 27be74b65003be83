use Rattle.std.proofs.Common.{ap, ◌∙◌, refl, take, drop}
use Rattle.std.specs.Int.{w64, from_be_bytes}
use Rattle.redo_journal.proofs.LiveLemmas.{reads_root}
use Rattle.redo_journal.proofs.live.read_root.Goals as goal

pub returns : goal.returns
returns c =
    let image = c.args.image.now in
    reads_root image c.args.gate c.number_at.result _ c.requires refl (c.number_at.ensures ∙ ap (λ place. from_be_bytes w64 (take 8 (drop place image))) c.cell.ensures)
