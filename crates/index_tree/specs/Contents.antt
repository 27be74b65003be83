-- What a tree holds, as its callers see it.
use Rattle.std.specs.Prelude.{◌≡◌, ℕ, zero, suc, ◌+◌, ◌<◌, List, length, Option, Some, None, IsSomeAnd, cond, nat_lt, slice_get, refl}
use Rattle.std.specs.Coded.{Coded, code_by, coded×, coded_ℕ, coded_list}

-- the items from first to last, the place of each in the same order, and how many inserts fit
pub record Contents (T : Type 0) : Type 0 where
  pub items : List T
  pub places : List ℕ
  pub spare : ℕ

-- the contents are stored as the three of them, one beside the other
abbrev pub contents_code : {T : Type 0} → Coded T → Coded (Contents T)
contents_code {T} item =
    code_by (List T × (List ℕ × ℕ)) (coded× (coded_list item) (coded× (coded_list coded_ℕ) coded_ℕ)) (λ held. (held.items, (held.places, held.spare))) (λ parts. record { items = parts.0; places = parts.1.0; spare = parts.1.1 }) (λ _. refl)

-- the place stands for the item that has so many before it
pub record IsAt {T : Type 0} (tree : Contents T) (place before : ℕ) : Type 0 where
  pub within : before < length tree.items
  pub named : slice_get tree.places before ≡ Some place

-- the place stands for one of the items
abbrev pub IsInside : {T : Type 0} → Contents T → ℕ → Type 0
IsInside tree place = (before : ℕ) × IsAt tree place before

-- the answer is the place of the item that has so many before it, and None where no item is meant
abbrev pub Finds : {T : Type 0} → Contents T → Option ℕ → Option ℕ → Type 0
Finds tree None answer = answer ≡ None
Finds tree (Some before) answer = IsSomeAnd answer (λ place. IsAt tree place before)

-- one further on among so many, where that is not past the end
abbrev pub one_after : ℕ → ℕ → Option ℕ
one_after count before = cond (nat_lt (before + 1) count) (Some (before + 1)) None

-- one back, where that is not before the beginning
abbrev pub one_before : ℕ → Option ℕ
one_before zero = None
one_before (suc before) = Some before
