-- One history for all passes: what holds of the table between any two steps.
use Rattle.std.specs.Prelude.{◌≡◌, ◌⊎◌, ℕ, ◌+◌, ◌%◌, ◌<◌, ◌≤◌, Bool, true, false, List, [], length, slice_index, Option, Some}
use mathlib.Core.Option.{some}
use mathlib.Core.Option as maybe
use mathlib.Core.List.{IsPrefix}
use lib.ListN.{get_elem?}
use Rattle.atomic_table.specs.Table.{State}
use Rattle.turn_lock.specs.declared.view.View.{View}
use Rattle.turn_lock.specs.declared.view.Dealt.{Dealt}
use Rattle.turn_lock.specs.declared.view.Stage.{Stage}
use Rattle.turn_lock.specs.declared.view.Stage.TheVariants.{Rests, Deals, Waits, Holds, Joins, Spent}
use Rattle.known_lists.specs.Lists.{total}
use Rattle.turn_lock.specs.Histories.{made_by, AllMadeBelow}

-- how many tickets a pass at this stage has
abbrev pub tickets_at : {E : Type 0} → Stage E → ℕ
tickets_at Rests = 0
tickets_at (Deals k) = 0
tickets_at (Waits n) = 1
tickets_at (Holds n) = 1
tickets_at (Joins k theirs own mine) = 0
tickets_at Spent = 0

-- a pass at this stage has the ticket n
abbrev pub HasTicket : {E : Type 0} → ℕ → Stage E → Type 0
HasTicket n Rests = ⊥
HasTicket n (Deals k) = ⊥
HasTicket n (Waits m) = m ≡ n
HasTicket n (Holds m) = m ≡ n
HasTicket n (Joins k theirs own mine) = ⊥
HasTicket n Spent = ⊥

-- the seat at this stage is that of a pass which was not joined into another
abbrev pub lives_at : {E : Type 0} → Stage E → Bool
lives_at Rests = true
lives_at (Deals k) = false
lives_at (Waits n) = true
lives_at (Holds n) = true
lives_at (Joins k theirs own mine) = true
lives_at Spent = false

-- the same, or it is the seat from which passes are dealt
abbrev pub knows_at : {E : Type 0} → Stage E → Bool
knows_at Rests = true
knows_at (Deals k) = true
knows_at (Waits n) = true
knows_at (Holds n) = true
knows_at (Joins k theirs own mine) = true
knows_at Spent = false

-- the pass at this stage has the turn
abbrev pub holds_at : {E : Type 0} → Stage E → Bool
holds_at Rests = false
holds_at (Deals k) = false
holds_at (Waits n) = false
holds_at (Holds n) = true
holds_at (Joins k theirs own mine) = false
holds_at Spent = false

module _ {B E : Type 0} where
  abbrev pub tickets_of : View B E → ℕ
  tickets_of v = tickets_at v.stage

  abbrev pub passes_of : View B E → ℕ
  passes_of v = v.passes

module _ {B E : Type 0} (stands : B → List E → B → Type 0) (maker : E → ℕ) (place : B → ℕ) (faults : B → ℕ) where
  -- the seat from which the passes are dealt
  abbrev pub starting : Dealt B → View B E
  starting dealt =
      record { opened = Some dealt.opened.value; stage = Deals 0; number = 0; passes = dealt.passes; seen = []; mine = []; faults = faults dealt.opened.value; found = []; left = [] }

  -- what a stage says: the tickets from `served` up to `drawn` are out, and `holder` tells whose each one is
  module _ (served drawn : ℕ) (holder : ℕ → ℕ) (seats : ℕ) (history : List E) (seat : ℕ) (seen : List E) where
    abbrev pub IsAt : Stage E → Type 0
    IsAt Rests = Unit {0}
    IsAt (Deals k) = (seat ≡ 0) × (k + 1 ≡ seats) × (seen ≡ [])
    IsAt (Waits n) = (served ≤ n) × (n < drawn) × (holder n ≡ seat)
    IsAt (Holds n) = (n ≡ served) × (n < drawn) × (holder n ≡ seat) × (seen ≡ history)
    IsAt (Joins k theirs own mine) = IsPrefix theirs seen × IsPrefix mine seen × (made_by maker k seen ≡ own)
    IsAt Spent = Unit {0}

  -- what is known is so: a beginning of the history was seen, and no more faults than there are
  pub record Sees (opened : B) (history : List E) (most : ℕ) (v : View B E) : Type 0 where
    pub opened_is : v.opened ≡ Some opened
    pub prefix : IsPrefix v.seen history
    pub no_more_faults : v.faults ≤ most

  -- a pass stands for itself at least, and its own entries are those of its number, in what it saw and in the whole history
  pub record Owns (history : List E) (seat : ℕ) (v : View B E) : Type 0 where
    pub numbered : v.number + 1 ≡ seat
    pub counts : 0 < v.passes
    pub own : made_by maker v.number history ≡ v.mine
    pub own_seen : made_by maker v.number v.seen ≡ v.mine

  -- nobody has the turn, and the value lies in its slot: it is what the history made of the value as it was opened
  pub record IsHome (opened : B) (history : List E) (most : ℕ) (homes : List (maybe.Option (Option B))) (views : List (View B E)) : Type 0 where
    pub kept : B
    pub there : get_elem? homes 0 ≡ some (some (Some kept))
    pub stood : stands opened history kept
    pub no_fewer_faults : most ≤ faults kept
    pub no_turn : (j : ℕ) (v : View B E) → get_elem? views j ≡ some v → holds_at v.stage ≡ false

  -- the pass whose ticket is served has the turn, and the value is out with it
  pub record IsOut (served : ℕ) (holder : ℕ → ℕ) (most : ℕ) (views : List (View B E)) : Type 0 where
    pub view : View B E
    pub there : get_elem? views (holder served) ≡ some view
    pub holds : view.stage ≡ Holds served
    pub faults_then : view.faults ≡ most

  -- some pass that was not joined into another, or the seat of the dealing, has seen the whole history
  pub record IsSeen (history : List E) (views : List (View B E)) : Type 0 where
    pub seat : ℕ
    pub view : View B E
    pub there : get_elem? views seat ≡ some view
    pub knows : knows_at view.stage ≡ true
    pub whole : view.seen ≡ history

  pub record IsSerial (dealt : Dealt B) (s : State (Option B) (View B E)) : Type 0 where
    pub history : List E
    pub served : ℕ
    pub drawn : ℕ
    pub holder : ℕ → ℕ
    pub most : ℕ
    pub wide : (length s.words ≡ 33) × (length s.homes ≡ 1)
    -- TICKET, SERVING and COUNT
    pub ticket : slice_index s.words 0 ≡ drawn % 18446744073709551616
    pub serving : slice_index s.words 16 ≡ served % 18446744073709551616
    pub count : slice_index s.words 32 ≡ (place dealt.opened.value + length history) % 18446744073709551616
    -- as many tickets are out as there are passes with one, and each ticket is somebody's
    pub in_turn : served + total tickets_of s.views ≡ drawn
    pub each_ticket : (n : ℕ) → served ≤ n → n < drawn → (v : View B E) × (get_elem? s.views (holder n) ≡ some v) × HasTicket n v.stage
    pub each_stage : (j : ℕ) (v : View B E) → get_elem? s.views j ≡ some v → IsAt served drawn holder (length s.views) history j v.seen v.stage
    pub each_view : (j : ℕ) (v : View B E) → get_elem? s.views j ≡ some v → knows_at v.stage ≡ true → Sees dealt.opened.value history most v
    pub each_pass : (j : ℕ) (v : View B E) → get_elem? s.views j ≡ some v → lives_at v.stage ≡ true → Owns history j v
    pub value : IsHome dealt.opened.value history most s.homes s.views ⊎ IsOut served holder most s.views
    pub made : AllMadeBelow maker (length s.views) history
    pub all_passes : total passes_of s.views ≡ dealt.passes
    pub few : (length s.views ≤ 4294967296) × (dealt.passes < 4294967296)
    pub seen_whole : IsSeen history s.views
