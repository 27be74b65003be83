-- The one order of all values that were offered, and what each pass knows of it.
use Rattle.std.specs.Prelude.{◌≡◌, ℕ, suc, ◌+◌, ◌-◌, ◌^◌, ◌≤◌, ◌<◌, ◌==◌, nat_lt, if◌then◌else◌, List, [], ◌∷◌, ◌++◌, length, drop, slice_get, Some}
use Rattle.std.specs.List.{AllByRecursion}
use mathlib.Core.Option.{some}
use mathlib.Core.List.{IsPrefix}
use lib.ListN.{get_elem?}
use Rattle.known_lists.specs.Lists.{total, longer}
use Rattle.hand_off.specs.declared.knows.Knows.{Knows}

-- How often a place stands in a list.
abbrev pub times : ℕ → List ℕ → ℕ
times place [] = 0
times place (p ∷ ps) = if p == place then suc (times place ps) else times place ps

-- All parts of a queue.
abbrev pub whole : ℕ
whole = 2 ^ 32

module _ {A : Type 0} where
  -- A pass that knows nothing and has so many parts.
  abbrev pub newcomer : ℕ → Knows A
  newcomer parts = record { parts = parts; seen = []; offered = []; taken = [] }

  -- A pass without parts has offered and taken nothing.
  abbrev pub IdleIsEmpty : Knows A → Type 0
  IdleIsEmpty v = v.parts ≡ 0 → (v.offered ≡ []) × (v.taken ≡ [])

  -- Of a queue that holds these values, and of what its passes know: all values that were offered stand in one order, of which so
  -- many have come out, and the queue holds the others. Each pass saw a beginning of it. Each place that came out is that of one
  -- take, and of no other.
  pub record IsQueue (items : List A) (views : List (Knows A)) : Type 0 where
    pub order : List A
    pub out : ℕ
    pub most : out ≤ length order
    pub holds : items ≡ drop out order
    pub seen : (pass : ℕ) (v : Knows A) → get_elem? views pass ≡ some v → IsPrefix v.seen order × IdleIsEmpty v
    pub once : (place : ℕ) → total (λ (v : Knows A). times place v.taken) views ≡ (if nat_lt place out then 1 else 0)
    pub offers : total (λ (v : Knows A). length v.offered) views ≡ length order
    pub takes : total (λ (v : Knows A). length v.taken) views ≡ out
    pub parts : total (λ (v : Knows A). v.parts) views ≡ whole

  -- What an offer adds to what a pass knows: the value stands at the end of all that was offered.
  pub record Offers (before : Knows A) (value : A) (after : Knows A) : Type 0 where
    pub earlier : List A
    pub grown : IsPrefix before.seen earlier
    pub seen : after.seen ≡ earlier ++ value ∷ []
    pub offered : after.offered ≡ before.offered ++ length earlier ∷ []
    pub taken : after.taken ≡ before.taken
    pub parts : after.parts ≡ before.parts

  -- What a take adds to what a pass knows: the value is the one at the first place that had not come out, which is behind all
  -- places that the pass had taken, and it has taken none twice.
  pub record Takes (before : Knows A) (value : A) (after : Knows A) : Type 0 where
    pub place : ℕ
    pub grown : IsPrefix before.seen after.seen
    pub there : slice_get after.seen place ≡ Some value
    pub behind : AllByRecursion (λ (earlier : ℕ). earlier < place) before.taken
    pub taken : after.taken ≡ before.taken ++ place ∷ []
    pub once : (any : ℕ) → times any after.taken ≤ 1
    pub offered : after.offered ≡ before.offered
    pub parts : after.parts ≡ before.parts

  -- At one moment the queue held so many values. Who is alone with it knows which: those that it offered and has not taken.
  pub record Held (count : ℕ) (v : Knows A) : Type 0 where
    pub order : List A
    pub out : ℕ
    pub grown : IsPrefix v.seen order
    pub held : length order ≡ out + count
    pub alone : v.parts ≡ whole → length v.offered ≡ length v.taken + count

  -- What two passes know together.
  abbrev pub together : Knows A → Knows A → Knows A
  together v w = record {
    parts = v.parts + w.parts;
    seen = longer v.seen w.seen;
    offered = v.offered ++ w.offered;
    taken = v.taken ++ w.taken;
  }

  -- What a pass knows that has given away one part, and what the pass knows that has it.
  abbrev pub less_one : Knows A → Knows A
  less_one v = record v { parts = v.parts - 1 }

  abbrev pub one_part : Knows A → Knows A
  one_part v = record { parts = 1; seen = v.seen; offered = []; taken = [] }
