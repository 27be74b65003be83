use Rattle.std.proofs.Common.{◌≡◌, List, ◌++◌, sym, ap, subst, ◌∙◌, arith}
use Rattle.table_rows.specs.Entries.{Entry}
use Rattle.request_types.specs.declared.filters.FilterSpec.{FilterSpec}
use Rattle.table_rows.specs.declared.bound.Bound.{Bound}
use Rattle.table_rows.specs.Walks.{walk_of, walked}
use Rattle.find_scan.specs.Select.{columns_for}
use Rattle.find_scan.specs.Gathering.{AreWideFor, gives, front_of, bound_of}
use Rattle.find_scan.proofs.Gathered.{on_ok}
use Rattle.find_scan.proofs.Fitting.{table_there, index_there, key_fits, wide_walked, matching_is}
use Rattle.find_scan.proofs.walking.scan.Goals as goal

pub walk-walk-requires-clause-table : goal.walk-walk-requires-clause-table
walk-walk-requires-clause-table c = table_there c.args.tables.now c.args.spec.now c.requires.fits c.parts.ensures.valid

pub walk-walk-requires-clause-index : goal.walk-walk-requires-clause-index
walk-walk-requires-clause-index c = index_there c.args.tables.now c.args.spec.now c.requires.fits

pub gather-requires : goal.gather-requires
gather-requires c =
    subst (λ (filters : List FilterSpec). AreWideFor filters c.walk-walk.result) (sym c.as_slice.ensures)
    (subst (AreWideFor c.args.spec.now.filters) (sym c.walk-walk.ensures)
    (wide_walked c.args.tables.now c.args.spec.now c.requires.fits c.parts.ensures.valid c.bound_of.result c.args.key.now))

pub returns : goal.returns
returns c =
    let state = c.args.tables.now in
    let spec = c.args.spec.now in
    let key = c.args.key.now in
    let walk = walk_of state spec.table spec.index in
    let before = c.args.selection.now in
    let begun = c.walk-walk.ensures ∙ ap (λ (b : Bound). walked b (columns_for state spec) key walk) c.bound_of.ensures in
    let front = ap (λ (w : List Entry). front_of c.is_equal.result c.parts.result.now key w) begun
    ∙ (λ i. front_of (c.is_equal.ensures i) (c.parts.ensures.parts i) key (walked (bound_of spec.op) (columns_for state spec) key walk))
    ∙ matching_is state spec c.requires.fits c.parts.ensures.valid key (omega (arith, c.requires.key, key_fits state spec c.requires.fits)) in
    on_ok c.gather.result (λ gathered later.
    subst (λ (filters : List FilterSpec). gives filters c.gather.new.selection later ≡ gives filters before (front_of c.is_equal.result c.parts.result.now key c.walk-walk.result ++ later)) c.as_slice.ensures (gathered later)
    ∙ ap (λ (es : List Entry). gives spec.filters before (es ++ later)) front) c.gather.ensures
