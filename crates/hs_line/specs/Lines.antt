-- The lines of a stream of bytes, over the whole stream: no pieces occur, and no buffer.
use Rattle.std.specs.Prelude.{◌≡◌, ℕ, ◌+◌, Bool, false, not, ◌&&◌, ◌==◌, List, [], ◌∷◌, ◌++◌, length, take, nat_lt, nat_le, if◌then◌else◌}
use Rattle.std.specs.List.{list_any, take_while}
use Rattle.hs_line.specs.declared.limits.TheConstants.{MAX_LINE_LEN}

-- whether an LF, the byte 10, is among the bytes
abbrev pub has_lf : List ℕ → Bool
has_lf bytes = list_any (λ b. b == 10) bytes

-- what can stand before an LF: bytes without one
abbrev pub IsLine : List ℕ → Type 0
IsLine bytes = has_lf bytes ≡ false

-- the lines with this byte at the front of the first, where there is a line
abbrev pub onto_first : ℕ → List (List ℕ) → List (List ℕ)
onto_first b [] = []
onto_first b (line ∷ lines) = (b ∷ line) ∷ lines

-- the bytes before each LF: an LF ends a line, and another byte is of the line that ends next
abbrev pub lines_of : List ℕ → List (List ℕ)
lines_of [] = []
lines_of (b ∷ bytes) = if b == 10 then [] ∷ lines_of bytes else onto_first b (lines_of bytes)

-- the bytes after the last LF, all of them where there is none
abbrev pub rest_of : List ℕ → List ℕ
rest_of [] = []
rest_of (b ∷ bytes) = if has_lf (b ∷ bytes) then rest_of bytes else b ∷ bytes

-- the lines up to, and without, the first that is longer than a line may be
abbrev pub whole_lines : List ℕ → List (List ℕ)
whole_lines bytes = take_while (λ line. nat_le (length line) MAX_LINE_LEN) (lines_of bytes)

-- whether the first line is longer than this, ended or not: so many bytes and one more are there
-- without an LF
abbrev pub starts_longer : ℕ → List ℕ → Bool
starts_longer most bytes = nat_lt most (length bytes) && not (has_lf (take (most + 1) bytes))

-- whether the first line is longer than a line may be
abbrev pub is_too_long : List ℕ → Bool
is_too_long bytes = starts_longer MAX_LINE_LEN bytes

-- lines, each with its LF, and bytes after them
abbrev pub joined : List (List ℕ) → List ℕ → List ℕ
joined [] rest = rest
joined (line ∷ lines) rest = line ++ 10 ∷ joined lines rest
