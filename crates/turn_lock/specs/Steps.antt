-- What each step tells the pass that takes it.
use Rattle.std.specs.Prelude.{◌≡◌, ◌≢◌, ℕ, ◌+◌, ◌-◌, ◌%◌, ◌<◌, ◌≤◌, List, [], ◌∷◌, ◌++◌, length, Option, Some, None, max}
use mathlib.Core.List.{IsPrefix}
use Rattle.atomic_table.specs.Table.{Me, Step}
use Rattle.turn_lock.specs.declared.view.View.{View}
use Rattle.turn_lock.specs.declared.view.Stage.{Stage}
use Rattle.turn_lock.specs.declared.view.Stage.TheVariants.{Rests, Deals, Waits, Holds, Joins, Spent}
use Rattle.known_lists.specs.Lists.{longer}
use Rattle.turn_lock.specs.Histories.{made_by}

-- after one more pass was dealt
abbrev pub dealt_on : {E : Type 0} → Stage E → Stage E
dealt_on (Deals k) = Deals (k + 1)
dealt_on Rests = Rests
dealt_on (Waits n) = Waits n
dealt_on (Holds n) = Holds n
dealt_on (Joins k theirs own mine) = Joins k theirs own mine
dealt_on Spent = Spent

-- the number of the pass that is dealt
abbrev pub dealt_at : {E : Type 0} → Stage E → ℕ
dealt_at (Deals k) = k
dealt_at Rests = 0
dealt_at (Waits n) = 0
dealt_at (Holds n) = 0
dealt_at (Joins k theirs own mine) = 0
dealt_at Spent = 0

abbrev Mine : Type 0 → Type 0 → Type 0
Mine B E = Me (Option B) (View B E)

abbrev At : Type 0 → Type 0 → Type 0
At B E = Step (Option B)

module _ {B E : Type 0} where
  abbrev pub waiting : ℕ → View B E → View B E
  waiting n v = record v { stage = Waits n }

  -- the turn begins with this history and so many faults
  abbrev pub holding : ℕ → List E → ℕ → View B E → View B E
  holding n history faults v = record v { stage = Holds n; seen = history; faults = faults; found = v.found ++ (length history, faults) ∷ [] }

  abbrev pub grown : E → View B E → View B E
  grown e v = record v { seen = v.seen ++ e ∷ []; mine = v.mine ++ e ∷ [] }

  abbrev pub grown_by : Option E → View B E → View B E
  grown_by None v = v
  grown_by (Some e) v = grown e v

  -- the value lies in its slot again, and the entry, if there is one, is counted
  pub record HandedIn (value : B) (entry : Option E) (m m' : Mine B E) : Type 0 where
    pub kept : B
    pub slot : m'.1 ≡ (0, Some kept) ∷ []
    pub value_is : kept ≡ value
    pub view : m'.0 ≡ grown_by entry m.0

  -- the turn ended with so many faults
  abbrev pub resting : ℕ → View B E → View B E
  resting faults v = record v { stage = Rests; faults = faults; left = v.left ++ faults ∷ [] }

  abbrev pub dealing : View B E → View B E
  dealing v = record v { stage = dealt_on v.stage; passes = v.passes - 1 }

  abbrev pub newcomer : View B E → View B E
  newcomer v = record { opened = v.opened; stage = Rests; number = dealt_at v.stage; passes = 1; seen = v.seen; mine = []; faults = v.faults; found = []; left = [] }

  abbrev pub joined : View B E → View B E → View B E
  joined v w = record v { stage = Joins w.number w.seen w.mine v.seen; passes = v.passes + w.passes; seen = longer v.seen w.seen; faults = max v.faults w.faults }

  abbrev pub spent : View B E
  spent = record { opened = None; stage = Spent; number = 0; passes = 0; seen = []; mine = []; faults = 0; found = []; left = [] }

  -- the pass has the ticket that was the next one
  abbrev pub Drawn : At B E → Mine B E → ℕ → Mine B E → Type 0
  Drawn st m found m' = (n : ℕ) × (found ≡ n % 18446744073709551616) × (m' ≡ (waiting n m.0, m.1))

  -- the entry that the step names was counted: it is the last of the history, and the pass has seen it
  abbrev pub Counted : Option E → At B E → Mine B E → ℕ → Mine B E → Type 0
  Counted named st m found m' = (entry : E) → named ≡ Some entry → m' ≡ (grown entry m.0, m.1)

  module _ (stands : B → List E → B → Type 0) (maker : E → ℕ) (faults : B → ℕ) where
    -- the turn: the value is that of the history so far, which begins with all that the pass had seen, and has no other entry of its own
    pub record Turn (n : ℕ) (m m' : Mine B E) : Type 0 where
      pub kept : B
      pub history : List E
      pub slot : m'.1 ≡ (0, Some kept) ∷ m.1
      pub view : m'.0 ≡ holding n history (faults kept) m.0
      pub stood : (opened : B) → m.0.opened ≡ Some opened → stands opened history kept
      pub prefix : IsPrefix m.0.seen history
      pub own : made_by maker m.0.number history ≡ m.0.mine
      pub no_fewer_faults : m.0.faults ≤ faults kept

    -- the pass that took in another knows all that both had seen, and of both the own entries
    pub record Settles (k : ℕ) (theirs own mine : List E) (m m' : Mine B E) : Type 0 where
      pub rests : m' ≡ (record m.0 { stage = Rests }, m.1)
      pub theirs_seen : IsPrefix theirs m.0.seen
      pub mine_seen : IsPrefix mine m.0.seen
      pub their_own : made_by maker k m.0.seen ≡ own
      pub my_own : made_by maker m.0.number m.0.seen ≡ m.0.mine
      pub few : m.0.passes < 4294967296

    abbrev pub Settled : At B E → Mine B E → ℕ → Mine B E → Type 0
    Settled st m found m' = (k : ℕ) (theirs own mine : List E) → m.0.stage ≡ Joins k theirs own mine → Settles k theirs own mine m m'

    -- where the ticket is served, the turn begins, and else nothing happens
    abbrev pub Looked : At B E → Mine B E → ℕ → Mine B E → Type 0
    Looked st m found m' = (n : ℕ) → m.0.stage ≡ Waits n → (found ≡ n % 18446744073709551616 → Turn n m m') × (found ≢ n % 18446744073709551616 → m' ≡ m)

    -- the turn was passed on, with the value in its slot
    abbrev pub PassedOn : At B E → Mine B E → ℕ → Mine B E → Type 0
    PassedOn st m found m' = (kept : B) → m.1 ≡ (0, Some kept) ∷ [] → m' ≡ (resting (faults kept) m.0, [])
