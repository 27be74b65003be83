use Rattle.std.proofs.Common.{◌≡◌, ◌+◌, ◌<◌, ◌^◌, refl, subst, sym, arith, length}
use Rattle.std.specs.Prelude.{Some}
use Rattle.std.proofs.lemmas.Result.{err_from_is_err_and}
use Rattle.redo_journal.specs.Journal.{Standing}
use Rattle.redo_journal.specs.Opening.{Opens}
use Rattle.redo_journal.specs.Records.{payloads_of}
use Rattle.redo_journal.proofs.FormLemmas.{length-segment_head}
use Rattle.redo_journal.proofs.OpenLemmas.{closed_at, length-payloads, rooted_is, head_refused, segment_refused, number_refused, stand_upto}
use Rattle.redo_journal.proofs.open.read_rooted.Goals as goal

pub returns-in_err-head-clause-err : goal.returns-in_err-head-clause-err
returns-in_err-head-clause-err c =
    let p = err_from_is_err_and c.from_residual.result c.from_residual.ensures.1 in
    let refused = head_refused c.args.text.now c.args.image.now c.args.gate c.requires.root c.read_root-root.result c.read_root-root.ensures c.in_err-head.field-0.0 c.in_err-head.ensures.err in
    rw (p.1, p.2) refused

pub returns-in_err-records-clause-err : goal.returns-in_err-records-clause-err
returns-in_err-records-clause-err c =
    let p = err_from_is_err_and c.from_residual-in_err-records.result c.from_residual-in_err-records.ensures.1 in
    let refused = segment_refused c.args.text.now c.args.image.now c.args.gate c.requires.root c.read_root-root.result c.read_root-root.ensures c.in_ok-head.head c.in_ok-head.ensures.ok c.in_err-records.field-0.0 c.in_err-records.ensures.err in
    rw (p.1, p.2) refused

pub returns-then-head-count-clause-err : goal.returns-then-head-count-clause-err
returns-then-head-count-clause-err c =
    let image = c.args.image.now in
    let last = c.in_ok-records.last in
    let items = c.in_ok-records.records.items in
    let stand = c.in_ok-records.ensures.ok in
    let count : c.len-count.result ≡ length items = omega (arith, c.len-count.ensures) in
    number_refused c.args.text.now image c.args.gate c.requires.root c.read_root-root.result c.read_root-root.ensures c.in_ok-head.head c.in_ok-head.ensures.ok (payloads_of items) last stand.run (closed_at last image stand.run.within c.in_ok-records.ensures.shut) (omega (arith, c.if-head-count.true, count, length-payloads items))

pub rooted-journal-requires-clause-before : goal.rooted-journal-requires-clause-before
rooted-journal-requires-clause-before c =
    let head = c.in_ok-head.ensures.ok in
    let stand = c.in_ok-records.ensures.ok in
    (head.behind, omega (arith, stand.run.gate_is, head.end_is, length-segment_head c.in_ok-head.head.first c.in_ok-head.head.area))

pub returns-clause-ok : goal.returns-clause-ok
returns-clause-ok c =
    let text = c.args.text.now in
    let image = c.args.image.now in
    let last = c.in_ok-records.last in
    let items = c.in_ok-records.records.items in
    let stand = c.in_ok-records.ensures.ok in
    let head = c.in_ok-head.head in
    let count : c.len-count.result ≡ length items = omega (arith, c.len-count.ensures) in
    let low : head.first + c.len-count.result < 2 ^ 63 = omega (arith, c.if-head-count.false) in
    subst (λ (j : Standing). Opens text image j (record { first = head.first; area = Some head.area; records = c.in_ok-records.records })) (sym c.rooted-journal.ensures) (record {
      is = rooted_is text image c.args.gate c.requires.root c.read_root-root.result c.read_root-root.ensures head c.in_ok-head.ensures.ok last c.len-count.result items stand c.in_ok-records.ensures.shut count (omega (arith, low));
      places = stand_upto image head.end last items stand;
      quiet = refl;
      low = low;
    })
