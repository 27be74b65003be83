-- What a turn does, and what joining does, to what passes know.
use Rattle.std.specs.Prelude.{◌≡◌, ℕ, zero, suc, ◌+◌, ◌≤◌, List, [], ◌∷◌, ◌++◌, length, Option, Some, None, max}
use mathlib.Core.List.{IsPrefix}
use Rattle.std.specs.Borrow.{Bor}
use Rattle.atomic_table.specs.Seated.{TableId}
use Rattle.known_lists.specs.Lists.{longer}
use Rattle.turn_lock.specs.Histories.{made_by}
use Rattle.turn_lock.specs.Known.{Known}

-- a history with the entry, if there is one, at its end
abbrev pub added : {E : Type 0} → List E → Option E → List E
added history None = history
added history (Some e) = history ++ e ∷ []

-- the entry that was lent, if one was
abbrev pub lent : {E : Type 0} → Option (Bor E) → Option E
lent None = None
lent (Some e) = Some e.now

module _ {B E : Type 0} where
  -- the value is what the history made of the value as it was opened
  abbrev pub StandsFor : (B → List E → B → Type 0) → Option B → List E → B → Type 0
  StandsFor stands opened history value = (o : B) → opened ≡ Some o → stands o history value

  -- a pass that has seen nothing yet
  abbrev pub fresh : TableId → B → ℕ → ℕ → Known B E
  fresh lock opened faults number =
      record { lock = lock; number = number; passes = 1; opened = Some opened; seen = []; mine = []; faults = faults; found = []; left = [] }

  -- so many of them, numbered from 0
  abbrev pub fresh_passes : TableId → B → ℕ → ℕ → List (Known B E)
  fresh_passes lock opened faults zero = []
  fresh_passes lock opened faults (suc n) = fresh_passes lock opened faults n ++ fresh lock opened faults n ∷ []

  -- what is known in the turn: the history that was found, and how many faults
  abbrev pub begun : List E → ℕ → Known B E → Known B E
  begun history faults pass = record pass { seen = history; faults = faults; found = pass.found ++ (length history, faults) ∷ [] }

  -- what is known after the turn, which counted the entry and left so many faults
  abbrev pub ended : Option E → ℕ → Known B E → Known B E
  ended entry faults turn = record turn { seen = added turn.seen entry; mine = added turn.mine entry; faults = faults; left = turn.left ++ faults ∷ [] }

  module _ (maker : E → ℕ) where
    -- the history that the turn found begins with what the pass had seen, and has the pass's own entries and no others of it
    pub record Begins (pass : Known B E) (faults : ℕ) (turn : Known B E) : Type 0 where
      pub begins : turn ≡ begun turn.seen faults pass
      pub prefix : IsPrefix pass.seen turn.seen
      pub own : made_by maker pass.number turn.seen ≡ pass.mine
      pub no_fewer_faults : pass.faults ≤ faults

    -- the pass has seen all that both had seen, which has the own entries of both; it stands for the passes of both, and its own entries stay
    pub record Joined (pass other joined : Known B E) : Type 0 where
      pub joins : joined ≡ record pass { passes = pass.passes + other.passes; seen = longer pass.seen other.seen; faults = max pass.faults other.faults }
      pub prefix : IsPrefix pass.seen joined.seen
      pub other_prefix : IsPrefix other.seen joined.seen
      pub own : made_by maker pass.number joined.seen ≡ pass.mine
      pub other_own : made_by maker other.number joined.seen ≡ other.mine
