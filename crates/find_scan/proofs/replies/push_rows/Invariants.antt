use Rattle.std.proofs.Common.{◌≡◌, ◌++◌, drop}
use Rattle.hs_token.specs.Spelling.{behind_tabs}
use Rattle.hs_token.specs.Steps.{Extends}
use Rattle.find_scan.specs.Show.{rows_tokens}
use Rattle.find_scan.specs.Rendering.{rows_at}
use Rattle.find_scan.proofs.replies.push_rows.Given as goal

abbrev pub invariant-loop-slot : goal.invariant-loop-slot
invariant-loop-slot l = record {
  written : l.out.items ++ behind_tabs (rows_tokens l.columns (rows_at l.tables l.table (drop l.slot-index l.slots)))
      ≡ l.fn.out.items ++ behind_tabs (rows_tokens l.columns (rows_at l.tables l.table l.slots));
  front : Extends l.fn.out.items l.out.items;
}
