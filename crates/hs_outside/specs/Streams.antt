-- What is known of a source and of a sink, and what a call does to it.
use Rattle.std.specs.Prelude.{◌≡◌, ℕ, ◌<◌, ◌≤◌, Bool, true, List, [], ◌++◌, length, take, Option, IfSome, Result, Ok, Err}
use Rattle.std.specs.Io.KnownBytes.{append_known, prepend_known}
pub use Rattle.fault_count.specs.Cause.{Rose}
use Rattle.hs_outside.specs.declared.sources.Read.{Read}
use Rattle.hs_outside.specs.declared.sources.Read.TheVariants as reads
use Rattle.hs_outside.specs.declared.sinks.Wrote.{Wrote}
use Rattle.hs_outside.specs.declared.sinks.Wrote.TheVariants as writes

-- What is known of a source: the bytes that are left, where it tells them, whether a read has
-- answered the end, and the count of its faults.
pub record Giver : Type 0 where
  pub left : Option (List ℕ)
  pub is_ended : Bool
  pub faults : ℕ

-- What is known of a sink: the bytes that it took, where it tells them, and the count of its
-- faults.
pub record Taker : Type 0 where
  pub taken : Option (List ℕ)
  pub faults : ℕ

-- The source gave these bytes, the first of what was left, where it tells.
abbrev pub Gave : Giver → Giver → List ℕ → Type 0
Gave old new bytes = old.left ≡ prepend_known bytes new.left

-- These bytes and no others are left, where the source tells.
abbrev pub IsAll : Giver → List ℕ → Type 0
IsAll giver bytes = IfSome giver.left (λ left. left ≡ bytes)

-- The sink took these bytes, after those that it had, where it tells.
abbrev pub Grew : Taker → Taker → List ℕ → Type 0
Grew old new bytes = new.taken ≡ append_known old.taken bytes

-- The sink took a front of these bytes.
pub record GrewPart (old new : Taker) (bytes : List ℕ) : Type 0 where
  pub part : List ℕ
  pub more : List ℕ
  pub is : bytes ≡ part ++ more
  pub grew : Grew old new part

-- A read gives bytes, or finds that none is left, or fails: only then does the count of faults
-- rise.
abbrev pub ReadDoes : Read → Giver → Giver → List ℕ → Type 0
ReadDoes (reads.Got count) old new buffer =
    (0 < count) × (count ≤ length buffer) × Gave old new (take count buffer)
    × (new.is_ended ≡ old.is_ended) × (new.faults ≡ old.faults)
ReadDoes reads.End old new buffer =
    IsAll old [] × (new.left ≡ old.left) × (new.is_ended ≡ true) × (new.faults ≡ old.faults)
ReadDoes reads.Failed old new buffer =
    (new.left ≡ old.left) × (new.is_ended ≡ old.is_ended) × Rose old.faults new.faults

-- A write takes a front of the bytes, or fails and takes none: only then does the count of faults
-- rise.
abbrev pub WriteDoes : Wrote → Taker → Taker → List ℕ → Type 0
WriteDoes (writes.Took count) old new bytes =
    (0 < count) × (count ≤ length bytes) × Grew old new (take count bytes)
    × (new.faults ≡ old.faults)
WriteDoes writes.Failed old new bytes = (new.taken ≡ old.taken) × Rose old.faults new.faults

-- Bytes that are to be taken whole are, or a front of them is and the count of faults rises.
abbrev pub SendDoes : {T E : Type 0} → Result T E → Taker → Taker → List ℕ → Type 0
SendDoes (Ok u) old new bytes = Grew old new bytes × (new.faults ≡ old.faults)
SendDoes (Err e) old new bytes = GrewPart old new bytes × Rose old.faults new.faults
