use Rattle.std.proofs.Common.{◌≡◌, ◌+◌, ◌-◌, ◌∷◌, [], ℕ, List, take, drop, ap, subst, arith}
use Rattle.redo_journal.specs.Bytes.{StandsAt, counted}
use Rattle.redo_journal.proofs.ImageLemmas.{reads_text}
use Rattle.redo_journal.proofs.StandLemmas.{byte_stands, stands_join}
use Rattle.redo_journal.proofs.image.read_record.Goals as goal

pub returns-clause-ok : goal.returns-clause-ok
returns-clause-ok c =
    let image = c.args.image.now in
    let gate = c.args.gate in
    let next = c.in-Some.next in
    let payload : List ℕ = take (next - (gate + 5)) (drop (gate + 5) image) in
    let five : gate + 5 ≡ gate + 1 + 4 = omega arith in
    let is : payload ≡ take (next - (gate + 1 + 4)) (drop (gate + 1 + 4) image) = ap (λ (n : ℕ). take (next - n) (drop n image)) five in
    let read = reads_text image (gate + 1) next payload (λ i. omega (arith, c.type_inv.image i)) c.in-Some.ensures.0 c.in-Some.ensures.1 c.in-Some.ensures.2 is in
    record {
      fits = read.fits;
      stands = stands_join gate (1 ∷ []) (counted payload) image (subst (λ (byte : ℕ). StandsAt gate (byte ∷ []) image) c.requires.open_gate (byte_stands gate image c.requires.within)) read.stands;
      next_is = omega (arith, read.next_is);
      within = c.in-Some.ensures.1;
    }
