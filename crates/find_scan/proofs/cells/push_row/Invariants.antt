use Rattle.std.proofs.Common.{◌≡◌, ◌++◌, drop}
use Rattle.hs_token.specs.Spelling.{behind_tabs}
use Rattle.hs_token.specs.Steps.{Extends}
use Rattle.find_scan.specs.Show.{row_tokens}
use Rattle.find_scan.proofs.cells.push_row.Given as goal

abbrev pub invariant-loop-column : goal.invariant-loop-column
invariant-loop-column l = record {
  written : l.out.items ++ behind_tabs (row_tokens (drop l.column-index l.columns) l.row) ≡ l.fn.out.items ++ behind_tabs (row_tokens l.columns l.row);
  front : Extends l.fn.out.items l.out.items;
}
