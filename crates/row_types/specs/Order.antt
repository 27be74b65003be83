-- The order of values and of keys.
use Rattle.std.specs.Prelude.{List, length, take}
use Rattle.std.specs.declared.cmp.Ordering.{Ordering}
use Rattle.std.specs.declared.cmp.Ordering.TheVariants.{Less, Equal, Greater}
use Rattle.std.specs.Ordering.{nat_cmp, int_cmp}
use Rattle.std.specs.Cmp.Lexicographic.{slice_cmp}
use Rattle.row_types.specs.declared.values.Value.{Value}
use Rattle.row_types.specs.declared.values.Value.TheVariants.{Null, Int, Text}

-- NULL comes first, then integers by number, then texts: the first byte that differs decides, and a proper front comes first.
abbrev pub value_cmp : Value → Value → Ordering
value_cmp Null Null = Equal
value_cmp Null (Int n) = Less
value_cmp Null (Text t) = Less
value_cmp (Int m) Null = Greater
value_cmp (Int m) (Int n) = int_cmp m n
value_cmp (Int m) (Text t) = Less
value_cmp (Text s) Null = Greater
value_cmp (Text s) (Int n) = Greater
value_cmp (Text s) (Text t) = slice_cmp nat_cmp s t

-- Keys compare part by part: the first part that differs decides, and a proper front comes first.
abbrev pub key_cmp : List Value → List Value → Ordering
key_cmp a b = slice_cmp value_cmp a b

-- A key compares with a shorter one by as many parts as the shorter one has.
abbrev pub prefix_cmp : List Value → List Value → Ordering
prefix_cmp key prefix = key_cmp (take (length prefix) key) prefix
