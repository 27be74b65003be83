use Rattle.std.proofs.lemmas.Result.{err_from_is_err_and}
use Rattle.redo_journal.proofs.LiveLemmas.{ends_root}
use Rattle.redo_journal.proofs.OpenLemmas.{header_refused, skip_refused}
use Rattle.redo_journal.proofs.open.read.Goals as goal

pub returns-in_err-first-clause-err : goal.returns-in_err-first-clause-err
returns-in_err-first-clause-err c =
    let p = err_from_is_err_and c.from_residual.result c.from_residual.ensures.1 in
    let refused = header_refused c.args.text.now c.args.image.now c.in_err-first.field-0.0 c.in_err-first.ensures.err in
    rw (p.1, p.2) refused

pub returns-in_err-last-clause-err : goal.returns-in_err-last-clause-err
returns-in_err-last-clause-err c =
    let p = err_from_is_err_and c.from_residual-in_err-last.result c.from_residual-in_err-last.ensures.1 in
    let refused = skip_refused c.args.text.now c.args.image.now c.in_ok-first.first c.in_ok-first.ensures.ok c.in_err-last.field-0.0 c.in_err-last.ensures.err in
    rw (p.1, p.2) refused

pub read_rooted-requires-clause-root : goal.read_rooted-requires-clause-root
read_rooted-requires-clause-root c = record {
  first = c.in_ok-first.first;
  header = c.in_ok-first.ensures.ok;
  skips = c.in_ok-last.ensures.ok;
  is_root = ends_root c.in_ok-last.last c.args.image.now c.in_ok-last.ensures.last c.if-image-last-eq1.true;
}

pub read_plain-requires-clause-skips : goal.read_plain-requires-clause-skips
read_plain-requires-clause-skips c = record {
  header = c.in_ok-first.ensures.ok;
  gate = c.in_ok-last.last;
  skips = c.in_ok-last.ensures.ok;
  shut = c.if-image-last-eq1.false;
}
