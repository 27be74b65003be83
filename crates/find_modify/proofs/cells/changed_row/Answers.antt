use Rattle.std.proofs.Common.{◌≡◌, ◌<◌, ◌≤◌, length, get_or, Ok, ap, sym, subst, ◌∙◌, arith}
use Rattle.find_modify.specs.Cells.{changed_cell}
use Rattle.find_modify.proofs.CellSteps.{step_made, twice_set}
use Rattle.find_modify.proofs.cells.changed_row.Goals as goal

pub loop-place-preserved : goal.loop-place-preserved
loop-place-preserved c =
    let numbers = c.args.columns.now in
    let named = c.as_slice-values.result.now in
    let cells = c.loop-place.cells.items in
    let place = c.loop-place.place in
    let n = get_or numbers place 0 in
    let within : place < length named = omega (arith, c.loop-place-test.true, c.loop-place.auto.place-end) in
    let few : length named ≤ length numbers = omega (arith, c.requires.few, ap length c.as_slice-values.ensures) in
    let next : place < length numbers = omega (arith, within, few) in
    let inside : n < length cells = omega (arith, c.requires.within place 0 next, c.loop-place.invariant.long) in
    let cell_is = c.replace-cell.ensures.value in
    let value_is = c.index-values-place.is in
    let made : changed_cell c.args.change.now.kind c.replace-cell.result c.index-values-place.result ≡ Ok c.in-Ok.made = c.in-Ok.ensures in
    record {
      made = step_made c.args.change.now.kind numbers named cells c.args.row.now place within few inside c.index-values-place.result c.replace-cell.result c.replace-cell.new.dest c.in-Ok.made value_is (subst (λ v. v ≡ get_or cells n v) (sym cell_is) c.index_mut.ensures.value) made c.loop-place.invariant.made;
      long = twice_set cells n c.replace-cell.new.dest c.in-Ok.made ∙ c.loop-place.invariant.long;
    }
