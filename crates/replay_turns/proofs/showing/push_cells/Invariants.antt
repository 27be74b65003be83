use Rattle.std.proofs.Common.{◌≡◌, ◌++◌, drop, map}
use Rattle.hs_token.specs.Spelling.{behind_tabs}
use Rattle.find_scan.specs.Show.{cell_token}
use Rattle.replay_turns.proofs.showing.push_cells.Given as goal

abbrev pub invariant-loop-cell : goal.invariant-loop-cell
invariant-loop-cell l =
    l.text.items ++ behind_tabs (map cell_token (drop l.cell-index l.cells)) ≡ l.fn.text.items ++ behind_tabs (map cell_token l.cells)
