use Rattle.std.proofs.Common.{◌≡◌, ◌+◌, ◌++◌, length}
use Rattle.hs_line.specs.Lines.{lines_of, rest_of}
use Rattle.hs_line.proofs.pieces.take_lines.Given as goal

abbrev pub invariant-loop : goal.invariant-loop
invariant-loop l = (l.lines.items ++ lines_of l.held ≡ l.fn.lines.items ++ lines_of l.fn.held)
    × (rest_of l.held ≡ rest_of l.fn.held)
    × (length l.lines.items ≡ length l.fn.lines.items + l.counter)
    × (length (lines_of l.held) + l.counter ≡ length (lines_of l.fn.held))
