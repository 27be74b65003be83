-- What the steps of a batch say. No public clause cites these.
use Rattle.std.specs.Prelude.{ℕ, Bool, true, not, List, [], ◌∷◌, ◌++◌}
use Rattle.find_modify.specs.declared.modifies.Modified.{Modified}
use Rattle.find_modify.specs.declared.modifies.Modified.TheVariants.{Done, Refused}
use Rattle.request_types.specs.declared.batches.Item.{Item}
use Rattle.request_types.specs.declared.batches.Part.{Part}
use Rattle.request_types.specs.Ids.{same_id}
use Rattle.batch_answers.specs.Replies.{code_reply}

-- What is answered where a change gave this, and this reply is meant for one that is done.
abbrev pub reply_of : List ℕ → Modified → List ℕ
reply_of reply (Done count) = reply
reply_of reply (Refused code) = code_reply code

-- Whether the first item is the last of its connection's run.
abbrev pub ends_run : List Item → Bool
ends_run [] = true
ends_run (item ∷ []) = true
ends_run (item ∷ next ∷ later) = not (same_id item.conn next.conn)

-- A part whose text stands behind another one.
abbrev pub behind : List ℕ → Part → Part
behind text part = record { conn = part.conn; text = text ++ part.text }

-- Parts of which the first one's text stands behind another.
abbrev pub first_behind : List ℕ → List Part → List Part
first_behind text [] = []
first_behind text (part ∷ parts) = behind text part ∷ parts
