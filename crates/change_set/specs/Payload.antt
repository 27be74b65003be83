-- Sets of changes as bytes.
use Rattle.std.specs.Prelude.{◌<◌, ◌^◌, ℕ, List, [], ◌∷◌, ◌++◌, length}
use Rattle.std.specs.Int.{w16, w32, w64, to_be_bytes, cast_unsigned}
use Rattle.std.specs.List.{flat_map, AllByRecursion}
use Rattle.row_types.specs.declared.values.Value.{Value}
use Rattle.row_types.specs.declared.values.Value.TheVariants.{Null, Int, Text}
use Rattle.change_set.specs.declared.change.Change.{Change}
use Rattle.change_set.specs.declared.change.Change.TheVariants.{Put, Delete, Count}

-- A text is behind its length in four bytes.
abbrev pub text_bytes : List ℕ → List ℕ
text_bytes text = to_be_bytes w32 (length text) ++ text

-- NULL is 0, an integer is 1 and its 8 bytes in two's complement, and a text is 2, its length and its bytes.
abbrev pub value_bytes : Value → List ℕ
value_bytes Null = 0 ∷ []
value_bytes (Int n) = 1 ∷ to_be_bytes w64 (cast_unsigned w64 n)
value_bytes (Text t) = 2 ∷ text_bytes t

-- Values stand one after another.
abbrev pub values_bytes : List Value → List ℕ
values_bytes values = flat_map value_bytes values

-- A change is its kind, its table in two bytes, and its values, or its counter in eight bytes.
abbrev pub change_bytes : Change → List ℕ
change_bytes (Put table row) = 1 ∷ to_be_bytes w16 table ++ values_bytes row
change_bytes (Delete table key) = 2 ∷ to_be_bytes w16 table ++ values_bytes key
change_bytes (Count table counter) = 3 ∷ to_be_bytes w16 table ++ to_be_bytes w64 counter

-- The payload of a set: the number of changes in four bytes, and the changes.
abbrev pub payload : List Change → List ℕ
payload changes = to_be_bytes w32 (length changes) ++ flat_map change_bytes changes

-- A text's length fits its four bytes.
abbrev pub IsShort : Value → Type 0
IsShort Null = Unit {0}
IsShort (Int n) = Unit {0}
IsShort (Text t) = length t < 2 ^ 32

-- A table's number fits its two bytes, and each value has bytes.
abbrev pub HasBytes : Change → Type 0
HasBytes (Put table row) = (table < 2 ^ 16) × AllByRecursion IsShort row
HasBytes (Delete table key) = (table < 2 ^ 16) × AllByRecursion IsShort key
HasBytes (Count table counter) = table < 2 ^ 16

-- The changes of a set have bytes, and their number fits its four bytes.
pub record HavePayload (changes : List Change) : Type 0 where
  pub each : AllByRecursion HasBytes changes
  pub most : length changes < 2 ^ 32
