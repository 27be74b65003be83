use Rattle.std.proofs.Common.{◌≡◌, ◌-◌, ℕ, List, take, drop, subst, ◌∙◌, arith, refl, length-append}
use Rattle.redo_journal.specs.Bytes.{mark, counted}
use Rattle.redo_journal.proofs.FormLemmas.{length-counted}
use Rattle.redo_journal.proofs.HeaderLemmas.{same_lists, other_lists, first_nine, reads_header, has_other}
use Rattle.redo_journal.proofs.ImageLemmas.{ReadsText, reads_text}
use Rattle.redo_journal.proofs.image.read_header.Goals as goal

pub returns-then-ne-2-clause-err : goal.returns-then-ne-2-clause-err
returns-then-ne-2-clause-err c =
    let image = c.args.image.now in
    let next = c.in-Some.end in
    let text : List ℕ = take (next - 13) (drop 13 image) in
    let marked : take 8 (drop 1 image) ≡ mark = same_lists (take 8 (drop 1 image)) c.as_slice.result.now c.ne.result c.ne.ensures c.if-ne.false ∙ c.as_slice.ensures in
    let read = reads_text image 9 next text (λ i. omega (arith, c.type_inv.image i)) c.in-Some.ensures.0 c.in-Some.ensures.1 c.in-Some.ensures.2 refl in
    let differs = other_lists text c.args.text.now c.ne-2.result c.ne-2.ensures c.if-ne-2.true in
    has_other image next c.args.text.now text (reads_header image next text (first_nine image c.requires.begun.0 (omega (arith, c.if-image-lt9.false)) marked) read) c.in-Some.ensures.1 read differs

pub returns-clause-ok : goal.returns-clause-ok
returns-clause-ok c =
    let image = c.args.image.now in
    let next = c.in-Some.end in
    let text : List ℕ = take (next - 13) (drop 13 image) in
    let marked : take 8 (drop 1 image) ≡ mark = same_lists (take 8 (drop 1 image)) c.as_slice.result.now c.ne.result c.ne.ensures c.if-ne.false ∙ c.as_slice.ensures in
    let same : text ≡ c.args.text.now = same_lists text c.args.text.now c.ne-2.result c.ne-2.ensures c.if-ne-2.false in
    let read = reads_text image 9 next text (λ i. omega (arith, c.type_inv.image i)) c.in-Some.ensures.0 c.in-Some.ensures.1 c.in-Some.ensures.2 refl in
    let read_it = subst (ReadsText image 9 next) same read in
    record {
      text_fits = read_it.fits;
      header = reads_header image next c.args.text.now (first_nine image c.requires.begun.0 (omega (arith, c.if-image-lt9.false)) marked) read_it;
      first_is = omega (arith, read_it.next_is, length-append mark (counted c.args.text.now), length-counted c.args.text.now);
      within = c.in-Some.ensures.1;
    }
