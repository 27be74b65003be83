-- A stream that comes in pieces.
use Rattle.std.specs.Prelude.{ℕ, ◌+◌, ◌-◌, ◌≤◌, List, [], ◌∷◌, ◌++◌, length}
use Rattle.hs_line.specs.Lines.{lines_of}
use Rattle.hs_line.specs.declared.pieces.Piece.{Piece}

-- the bytes of the pieces, one after another
abbrev pub stream_of : List Piece → List ℕ
stream_of [] = []
stream_of (piece ∷ pieces) = piece.bytes ++ stream_of pieces

-- how many lines are held after the pieces, where so many were held before: those that end in a
-- piece come to them, and then as many are taken as it asks for, or all
abbrev pub held_after : ℕ → List Piece → ℕ
held_after held [] = held
held_after held (piece ∷ pieces) =
    held_after (held + length (lines_of piece.bytes) - piece.takes) pieces

-- as many lines are asked for as end in the piece
abbrev pub IsDrained : Piece → Type 0
IsDrained piece = length (lines_of piece.bytes) ≤ piece.takes
