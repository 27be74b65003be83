-- Strings: how far one goes, and the bytes that it stands for.
use Rattle.std.specs.Prelude.{ℕ, ◌+◌, ◌*◌, ◌-◌, ◌%◌, ◌&&◌, if◌then◌else◌, ◌==◌, nat_le, List, [], ◌∷◌, length, take, drop, Option, Some, None, is_some}
use Rattle.std.specs.Char.{is_ascii_hexdigit}
use Rattle.sql_parse.specs.declared.quotes.Within.{Within}
use Rattle.sql_parse.specs.declared.quotes.Within.TheVariants.{Bytes, Escape, Quote}

-- The bytes of a token without its first so many and its last one.
abbrev pub inside : ℕ → List ℕ → List ℕ
inside front spelled = take (length spelled - (front + 1)) (drop front spelled)

-- The byte that stands behind `\` for another one. Behind it a quote and `\` stand for themselves.
abbrev pub escaped : ℕ → Option ℕ
escaped b =
    if b == 48 then Some 0
    else (if b == 39 then Some 39
    else (if b == 34 then Some 34
    else (if b == 92 then Some 92
    else (if b == 98 then Some 8
    else (if b == 110 then Some 10
    else (if b == 114 then Some 13
    else (if b == 116 then Some 9
    else (if b == 90 then Some 26 else None))))))))

-- Where a string is behind this byte.
abbrev pub behind : ℕ → Within
behind b = if b == 39 then Quote else (if b == 92 then Escape else Bytes)

-- The number of bytes up to the end of a string, its closing quote included, of which so many were
-- before these. A quote ends it, unless another one follows; `\` has to stand before an escape.
abbrev pub closing : Within → ℕ → List ℕ → Option ℕ
closing Bytes n [] = None
closing Escape n [] = None
closing Quote n [] = Some n
closing Bytes n (b ∷ z) = closing (behind b) (n + 1) z
closing Escape n (b ∷ z) = if is_some (escaped b) then closing Bytes (n + 1) z else None
closing Quote n (b ∷ z) = if b == 39 then closing Bytes (n + 1) z else Some n

-- The byte that is meant by one behind `\`.
abbrev pub meant : ℕ → Option ℕ → ℕ
meant b None = b
meant b (Some c) = c

-- A byte that stands for itself, before the bytes behind it.
abbrev pub kept : Within → ℕ → List ℕ → List ℕ
kept Bytes b rest = b ∷ rest
kept Escape b rest = rest
kept Quote b rest = rest

-- The string that these bytes between its outer quotes stand for.
abbrev pub unquoted : Within → List ℕ → List ℕ
unquoted at [] = []
unquoted Escape (b ∷ z) = meant b (escaped b) ∷ unquoted Bytes z
unquoted Quote (b ∷ z) = b ∷ unquoted Bytes z
unquoted Bytes (b ∷ z) = kept (behind b) b (unquoted (behind b) z)

-- The number of bytes up to the end of a string of hexadecimal digits, of which so many were before
-- these: an even number, so that each two digits are a byte.
abbrev pub hex_closing : ℕ → List ℕ → Option ℕ
hex_closing n [] = None
hex_closing n (b ∷ z) =
    if b == 39 && n % 2 == 0 then Some (n + 1)
    else (if is_ascii_hexdigit b then hex_closing (n + 1) z else None)

-- The number that a hexadecimal digit stands for; 0 for another byte.
abbrev pub digit : ℕ → ℕ
digit b =
    if nat_le 48 b && nat_le b 57 then b - 48
    else (if nat_le 97 b && nat_le b 102 then b - 87
    else (if nat_le 65 b && nat_le b 70 then b - 55 else 0))

-- The bytes that digits stand for, two for each.
abbrev pub unhexed : List ℕ → List ℕ
unhexed [] = []
unhexed (a ∷ []) = []
unhexed (a ∷ b ∷ z) = (digit a * 16 + digit b) ∷ unhexed z
