use Rattle.std.proofs.Common.{◌≡◌, refl, subst, sym, arith, length}
use Rattle.std.specs.Prelude.{None}
use Rattle.std.proofs.lemmas.Result.{err_from_is_err_and}
use Rattle.redo_journal.specs.Journal.{Standing}
use Rattle.redo_journal.specs.Opening.{Opens}
use Rattle.redo_journal.specs.Records.{payloads_of}
use Rattle.redo_journal.proofs.OpenLemmas.{payloads_le, length-payloads, plain_is, plain_refused, stand_upto}
use Rattle.redo_journal.proofs.open.read_plain.Goals as goal

pub returns-in_err-records-clause-err : goal.returns-in_err-records-clause-err
returns-in_err-records-clause-err c =
    let p = err_from_is_err_and c.from_residual.result c.from_residual.ensures.1 in
    let refused = plain_refused c.args.text.now c.args.image.now c.args.first c.requires.skips c.in_err-records.field-0.0 c.in_err-records.ensures.err in
    rw (p.1, p.2) refused

pub returns-clause-ok : goal.returns-clause-ok
returns-clause-ok c =
    let text = c.args.text.now in
    let image = c.args.image.now in
    let gate = c.in_ok-records.gate in
    let items = c.in_ok-records.records.items in
    let stand = c.in_ok-records.ensures.ok in
    let count : c.len.result ≡ length items = omega (arith, c.len.ensures) in
    subst (λ (j : Standing). Opens text image j (record { first = 0; area = None; records = c.in_ok-records.records })) (sym c.plain-journal.ensures) (record {
      is = plain_is text image c.args.first gate c.len.result items c.requires.skips stand c.in_ok-records.ensures.shut count;
      places = stand_upto image c.args.first gate items stand;
      quiet = refl;
      low = omega (arith, count, length-payloads items, payloads_le (payloads_of items), stand.run.gate_is, stand.run.within, c.requires.bound);
    })
