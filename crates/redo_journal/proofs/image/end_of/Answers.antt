use Rattle.std.proofs.Common.{◌≡◌, length, drop, arith, ap, length-drop}
use Rattle.std.proofs.lemmas.List.{take_rest}
use Rattle.redo_journal.specs.Bytes.{length_of}
use Rattle.redo_journal.proofs.ImageLemmas.{length_read}
use Rattle.redo_journal.proofs.image.end_of.Goals as goal

pub returns-then-rest-len : goal.returns-then-rest-len
returns-then-rest-len c =
    let at = c.args.at in
    let image = c.args.image.now in
    let value : c.from_be_bytes-len.result ≡ length_of (drop at image) = length_read image at c.from_be_bytes-len.result c.from_be_bytes-len.ensures in
    omega (arith, value, ap length (take_rest image at), c.if-rest-len.true)

pub returns-else-rest-len : goal.returns-else-rest-len
returns-else-rest-len c =
    let at = c.args.at in
    let image = c.args.image.now in
    let value : c.from_be_bytes-len.result ≡ length_of (drop at image) = length_read image at c.from_be_bytes-len.result c.from_be_bytes-len.ensures in
    (omega (arith, value), omega (arith, ap length (take_rest image at), length-drop at image, c.if-rest-len.false, c.in-len4-up.len_at_least), omega (arith, value, c.from_be_bytes-len.type_inv))
