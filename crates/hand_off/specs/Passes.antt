-- What a contract sees of a hand-off and of its passes.
use Rattle.std.specs.Prelude.{◌≡◌, ◌<◌, ℕ, []}
use Rattle.atomic_table.specs.Seated.{TableId}
use Rattle.crossbeam_queue.specs.Passes.{Pass, view}
use Rattle.hand_off.specs.declared.knows.Knows.{Knows}

-- Of a hand-off: which one it is, and how many values it can hold.
pub record Line : Type 0 where
  pub id : TableId
  pub capacity : ℕ

-- Of a pass: the hand-off that it is of, and what it knows.
pub record Handed (A : Type 0) : Type 0 where
  pub line : TableId
  pub knows : Knows A

module _ {A : Type 0} where
  abbrev pub handed_of : Pass A (Knows A) → Handed A
  handed_of seat = record { line = seat.table_id; knows = view seat }

  -- Between two calls no slot of the queue is out with a pass. It has a part at least.
  pub record IsAtRest (seat : Pass A (Knows A)) : Type 0 where
    pub empty_handed : seat.me.1 ≡ []
    pub some_part : 0 < (view seat).parts
