-- The order of values is a total one, which tells any two values apart.
use Rattle.std.proofs.Common.{◌≡◌, refl, ap, subst, ℕ, List, []}
use Rattle.std.specs.Prelude.{ℤ, pos}
use Rattle.std.specs.declared.cmp.Ordering.{Ordering}
use Rattle.std.specs.declared.cmp.Ordering.TheVariants.{Less, Equal, Greater}
use Rattle.std.specs.Ordering.{ordering_then, nat_cmp, int_cmp, then_cmp, on}
use Rattle.std.specs.Cmp.{IsTotalOrder, then_total, on_total, nat_cmp_total, int_cmp_total}
use Rattle.std.specs.Cmp.Lexicographic.{slice_cmp, nat_list_cmp_total, lists_total}
use Rattle.std.proofs.lemmas.Map.Lookups.{exact_signed, exact_bytes}
use Rattle.row_types.specs.declared.values.Value.{Value}
use Rattle.row_types.specs.declared.values.Value.TheVariants.{Null, Int, Text}
use Rattle.row_types.specs.Order.{value_cmp, key_cmp}

-- which kind of value comes first
abbrev rank : Value → ℕ
rank Null = 0
rank (Int n) = 1
rank (Text t) = 2

abbrev number : Value → ℤ
number Null = pos 0
number (Int n) = n
number (Text t) = pos 0

abbrev text : Value → List ℕ
text Null = []
text (Int n) = []
text (Text t) = t

-- by kind, then by number, then by text
abbrev by_parts : Value → Value → Ordering
by_parts = then_cmp (on rank nat_cmp) (then_cmp (on number int_cmp) (on text (slice_cmp nat_cmp)))

then-Equal : (o : Ordering) → ordering_then o Equal ≡ o
then-Equal Less = refl
then-Equal Equal = refl
then-Equal Greater = refl

same_order : (a b : Value) → by_parts a b ≡ value_cmp a b
same_order Null Null = refl
same_order Null (Int n) = refl
same_order Null (Text t) = refl
same_order (Int m) Null = refl
same_order (Int m) (Int n) = then-Equal (int_cmp m n)
same_order (Int m) (Text t) = refl
same_order (Text s) Null = refl
same_order (Text s) (Int n) = refl
same_order (Text s) (Text t) = refl

pub value_cmp_total : IsTotalOrder value_cmp
value_cmp_total =
    subst IsTotalOrder (λ i a b. same_order a b i) (then_total (on_total rank nat_cmp_total) (then_total (on_total number int_cmp_total) (on_total text nat_list_cmp_total)))

pub key_cmp_total : IsTotalOrder key_cmp
key_cmp_total = lists_total value_cmp_total

pub value_cmp-exact : (a b : Value) → value_cmp a b ≡ Equal → a ≡ b
value_cmp-exact Null Null e = refl
value_cmp-exact Null (Int n) e = absurd cc
value_cmp-exact Null (Text t) e = absurd cc
value_cmp-exact (Int m) Null e = absurd cc
value_cmp-exact (Int m) (Int n) e = ap Int (exact_signed m n e)
value_cmp-exact (Int m) (Text t) e = absurd cc
value_cmp-exact (Text s) Null e = absurd cc
value_cmp-exact (Text s) (Int n) e = absurd cc
value_cmp-exact (Text s) (Text t) e = ap Text (exact_bytes s t e)
