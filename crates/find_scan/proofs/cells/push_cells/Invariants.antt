use Rattle.std.proofs.Common.{◌≡◌, ◌++◌, drop, map}
use Rattle.hs_token.specs.Spelling.{behind_tabs}
use Rattle.hs_token.specs.Steps.{Extends}
use Rattle.find_scan.specs.Show.{cell_token}
use Rattle.find_scan.proofs.cells.push_cells.Given as goal

abbrev pub invariant-loop-cell : goal.invariant-loop-cell
invariant-loop-cell l = record {
  written : l.out.items ++ behind_tabs (map cell_token (drop l.cell-index l.cells)) ≡ l.fn.out.items ++ behind_tabs (map cell_token l.cells);
  front : Extends l.fn.out.items l.out.items;
}
