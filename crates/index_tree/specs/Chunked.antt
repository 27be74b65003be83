-- Items in chunks, one chunk after the other.
use Rattle.std.specs.Prelude.{◌≡◌, ℕ, zero, suc, ◌+◌, ◌-◌, ◌*◌, ◌<◌, ◌≤◌, Bool, false, true, List, [], ◌∷◌, ◌++◌, length, take, get_or, count_by, reverse}
use Rattle.std.specs.List.{AllByRecursion, range_with_len}
use Rattle.index_tree.specs.Contents.{Contents}

-- the items of all chunks
abbrev pub joined : {X : Type 0} → List (List X) → List X
joined [] = []
joined (xs ∷ rest) = xs ++ joined rest

-- the chunk of a number, and none of the items where there are not so many chunks
abbrev pub chunk_at : {X : Type 0} → List (List X) → ℕ → List X
chunk_at chunks number = get_or chunks number []

-- how many items stand in front of a chunk
abbrev pub start : {X : Type 0} → List (List X) → ℕ → ℕ
start chunks number = length (joined (take number chunks))

-- the places of the items, from the chunk of a number on: 256 numbers are kept for each chunk
abbrev pub places_from : {X : Type 0} → ℕ → List (List X) → List ℕ
places_from number [] = []
places_from number (xs ∷ rest) = range_with_len (256 * number) (length xs) ++ places_from (number + 1) rest

-- what a tree of these chunks in use and these spare ones holds
abbrev pub held : {X : Type 0} → List (List X) → List (List X) → Contents X
held chunks pool = record {
  items = joined chunks;
  places = places_from 0 chunks;
  spare = 128 * (length chunks + length pool) - length (joined chunks);
}

-- no chunk has more than 256 items, and where there are two each has 128
pub record IsShaped {X : Type 0} (chunks : List (List X)) : Type 0 where
  pub fits : AllByRecursion (λ xs. length xs ≤ 256) chunks
  pub half : 1 < length chunks → AllByRecursion (λ xs. 128 ≤ length xs) chunks

-- the chunks of the pool are empty
abbrev pub IsSpent : {X : Type 0} → List (List X) → Type 0
IsSpent pool = AllByRecursion (λ xs. xs ≡ []) pool

-- the chunk begins with the item, or is empty
abbrev pub MayBeginWith : {X : Type 0} → X → List X → Type 0
MayBeginWith first [] = Unit {0}
MayBeginWith first (x ∷ xs) = first ≡ x

-- each chunk with the item beside it
abbrev pub EachBeginsWith : {X : Type 0} → List X → List (List X) → Type 0
EachBeginsWith [] chunks = Unit {0}
EachBeginsWith (first ∷ firsts) [] = Unit {0}
EachBeginsWith (first ∷ firsts) (xs ∷ rest) = MayBeginWith first xs × EachBeginsWith firsts rest

-- the first items of the chunks, and any item for an empty chunk
pub record AreFirsts {X : Type 0} (firsts : List X) (chunks : List (List X)) : Type 0 where
  pub number : length firsts ≡ length chunks
  pub begin : EachBeginsWith firsts chunks

-- a tree's chunks, their first items, its pool, how many items it counts, and how many chunks fit in each list
pub record IsTree {X : Type 0} (chunks : List (List X)) (firsts : List X) (pool : List (List X)) (count capacity firsts_capacity pool_capacity : ℕ) : Type 0 where
  pub shaped : IsShaped chunks
  pub begun : AreFirsts firsts chunks
  pub spent : IsSpent pool
  pub counted : count ≡ length (joined chunks)
  pub covered : count ≤ 128 * (length chunks + length pool)
  pub few : length chunks + length pool ≤ 4294967296
  pub room : length chunks + length pool ≤ capacity
  pub firsts_room : length chunks + length pool ≤ firsts_capacity
  pub pool_room : length chunks + length pool ≤ pool_capacity

-- the spot behind all that pass, in the last chunk that has one of them
pub record IsCutAt {X : Type 0} (test : X → Bool) (chunks : List (List X)) (chunk offset : ℕ) : Type 0 where
  pub counted : start chunks chunk + offset ≡ count_by test (joined chunks)
  pub inside : 0 < length chunks → chunk < length chunks
  pub reached : 0 < chunk → chunk < length chunks
  pub within : offset ≤ length (chunk_at chunks chunk)
  pub first : offset ≡ 0 → chunk ≡ 0

-- each chunk but one has half
abbrev pub AllBut : {X : Type 0} → (X → Type 0) → List X → ℕ → Type 0
AllBut P [] number = Unit {0}
AllBut P (x ∷ rest) zero = AllByRecursion P rest
AllBut P (x ∷ rest) (suc number) = P x × AllBut P rest number

-- as IsShaped, but that one chunk may want an item for its half
pub record IsNearlyShaped {X : Type 0} (chunks : List (List X)) (short : ℕ) : Type 0 where
  pub inside : short < length chunks
  pub fits : AllByRecursion (λ xs. length xs ≤ 256) chunks
  pub others : 1 < length chunks → AllBut (λ xs. 128 ≤ length xs) chunks short
  pub nearly : 1 < length chunks → 127 ≤ length (chunk_at chunks short)

-- a new item fits at the spot, which has so many before it
pub record IsFree {X : Type 0} (chunks : List (List X)) (chunk offset before : ℕ) : Type 0 where
  pub counted : start chunks chunk + offset ≡ before
  pub inside : chunk < length chunks
  pub within : offset ≤ length (chunk_at chunks chunk)
  pub room : length (chunk_at chunks chunk) < 256

-- what is left of a walk: of the chunk where it stands, and then the chunks that it comes to
abbrev pub sequel : {X : Type 0} → Bool → List X → List (List X) → List X
sequel false left rest = left ++ joined rest
sequel true left rest = reverse (joined rest ++ left)

-- each chunk has items
abbrev pub HaveItems : {X : Type 0} → List (List X) → Type 0
HaveItems chunks = AllByRecursion (λ xs. 0 < length xs) chunks
