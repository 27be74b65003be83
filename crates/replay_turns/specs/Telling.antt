-- What is told of connections one after another. No public clause cites this file.
use Rattle.std.specs.Prelude.{ℕ, List, [], ◌∷◌, ◌++◌, map}
use Rattle.replay_turns.specs.Linked.{Linked, linked_at}
use Rattle.replay_turns.specs.Told.{sent_so_far, told}

-- how many bytes the connections of these numbers were sent so far
abbrev pub counts_of : List Linked → List ℕ → List ℕ
counts_of ls numbers = map (λ number. sent_so_far (linked_at number ls)) numbers

-- what is told of them behind these bytes
abbrev pub told_each : List ℕ → List ℕ → List Linked → List ℕ
told_each [] counts ls = []
told_each (number ∷ numbers) [] ls = []
told_each (number ∷ numbers) (count ∷ counts) ls = told count (linked_at number ls) ++ told_each numbers counts ls
