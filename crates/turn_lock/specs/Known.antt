-- What a contract sees of a lock and of a pass.
use Rattle.std.specs.Prelude.{◌≡◌, ℕ, List, [], ◌∷◌, Option, None}
use Rattle.atomic_table.specs.Seated.{TableId}
use Rattle.atomic_table.specs.declared.shared.Seat.{Seat}
use Rattle.turn_lock.specs.declared.view.View.{View}
use Rattle.turn_lock.specs.declared.view.Stage.TheVariants.{Rests, Holds}

-- of a lock: which one it is, and how many passes were made
pub record Lock : Type 0 where
  pub id : TableId
  pub passes : ℕ

-- the table of a lock, and what it was told
pub record IsLock (words slots passes told : ℕ) : Type 0 where
  pub wide : words ≡ 33
  pub deep : slots ≡ 1
  pub dealt : told ≡ passes

-- of a pass: the lock that it is of, its number, how many passes it stands for, the value as it was opened, the history that it saw last and
-- its own entries; the most faults that it knows of; for each turn how long a history and how many faults it found, and how many it left
pub record Known (B E : Type 0) : Type 0 where
  pub lock : TableId
  pub number : ℕ
  pub passes : ℕ
  pub opened : Option B
  pub seen : List E
  pub mine : List E
  pub faults : ℕ
  pub found : List (ℕ × ℕ)
  pub left : List ℕ

module _ {B E : Type 0} where
  abbrev pub known_of : Seat (Option B) (View B E) → Known B E
  known_of s =
      let v = s.me.0 in
      record { lock = s.table_id; number = v.number; passes = v.passes; opened = v.opened; seen = v.seen; mine = v.mine; faults = v.faults; found = v.found; left = v.left }

  -- a seat at the table that is a pass between two turns
  pub record IsPass (number passes : ℕ) (s : Seat (Option B) (View B E)) : Type 0 where
    pub numbered : s.me.0.number ≡ number
    pub counted : s.me.0.passes ≡ passes
    pub rests : s.me.0.stage ≡ Rests
    pub empty_handed : s.me.1 ≡ []

  -- a seat that has the turn, and whose slot is empty while the value is in hand
  pub record IsTurn (number passes : ℕ) (s : Seat (Option B) (View B E)) : Type 0 where
    pub numbered : s.me.0.number ≡ number
    pub counted : s.me.0.passes ≡ passes
    pub ticket : ℕ
    pub holds : s.me.0.stage ≡ Holds ticket
    pub slot : s.me.1 ≡ (0, None) ∷ []
