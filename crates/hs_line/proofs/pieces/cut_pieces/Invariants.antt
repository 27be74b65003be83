use Rattle.std.proofs.Common.{◌≡◌, ◌++◌, [], length, take}
use Rattle.std.specs.List.{AllByRecursion}
use Rattle.hs_line.specs.Lines.{lines_of, rest_of}
use Rattle.hs_line.specs.Pieces.{stream_of, held_after, IsDrained}
use Rattle.hs_line.proofs.pieces.cut_pieces.Given as goal

abbrev pub invariant-loop-pushed : goal.invariant-loop-pushed
invariant-loop-pushed l = (l.lines.items ++ lines_of l.held ≡ lines_of (stream_of (take l.pushed l.pieces)))
    × (rest_of l.held ≡ rest_of (stream_of (take l.pushed l.pieces)))
    × (length (lines_of l.held) ≡ held_after 0 (take l.pushed l.pieces))
    × (AllByRecursion IsDrained l.pieces → lines_of l.held ≡ [])
