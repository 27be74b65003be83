-- What passes that look at each other find.
use Rattle.std.specs.Prelude.{◌≡◌, ◌⊎◌, ℕ, true, List}
use mathlib.Core.Option.{some}
use mathlib.Core.List.{IsPrefix}
use lib.ListN.{get_elem?}
use Rattle.turn_lock.specs.declared.view.View.{View}
use Rattle.turn_lock.specs.Serial.{knows_at}

-- of two histories one begins the other
abbrev pub OneBegins : {E : Type 0} → List E → List E → Type 0
OneBegins xs ys = IsPrefix xs ys ⊎ IsPrefix ys xs

-- whichever two passes they are, one has seen a beginning of what the other has
abbrev pub SeenAgree : {B E : Type 0} → List (View B E) → Type 0
SeenAgree {B} {E} views =
    (i j : ℕ) (v w : View B E) → get_elem? views i ≡ some v → get_elem? views j ≡ some w → knows_at v.stage ≡ true → knows_at w.stage ≡ true → OneBegins v.seen w.seen
