-- What a turn prints, and which connections it lets go.
use Rattle.std.specs.Prelude.{ℕ, ◌==◌, List, [], ◌∷◌, ◌++◌, length, drop, codes, decimal, Option, Some, None, if◌then◌else◌}
use Rattle.hs_token.specs.declared.tokens.Token.TheVariants as tokens
use Rattle.hs_token.specs.Spelling.{line_spelled}
use Rattle.line_pipeline.specs.declared.conns.Conn.{Conn}
use Rattle.line_pipeline.specs.declared.conns.Conn.TheVariants as conns
use Rattle.line_pipeline.specs.declared.reasons.Reason.{Reason}
use Rattle.line_pipeline.specs.declared.reasons.Reason.TheVariants as reasons
use Rattle.replay_turns.specs.Linked.{Linked, linked_at}

-- The word for the reason of a closing.
abbrev pub reason_word : Reason → List ℕ
reason_word reasons.Ended = codes "ended"
reason_word reasons.LinkFault = codes "link"
reason_word reasons.TooLong = codes "long"
reason_word reasons.BatchDisk = codes "disk"
reason_word reasons.BatchMemory = codes "memory"

-- A line of a word, a number and a text, each as a token.
abbrev pub line_of : List ℕ → ℕ → List ℕ → List ℕ
line_of word number last = line_spelled (tokens.Text word ∷ tokens.Text (decimal number) ∷ tokens.Text last ∷ []) ++ 10 ∷ []

-- The line `sent <number> <bytes>`: all that a connection is sent in the turn, as one token.
abbrev pub sent_line : ℕ → List ℕ → List ℕ
sent_line number bytes = line_of (codes "sent") number bytes

-- The line `closed <number> <reason>`, where it is closed.
abbrev pub closed_line : ℕ → Conn → List ℕ
closed_line number (conns.Live live) = []
closed_line number (conns.Closed reason) = line_of (codes "closed") number (reason_word reason)

-- How many bytes a connection was sent so far, if there is one.
abbrev pub sent_so_far : Option Linked → ℕ
sent_so_far None = 0
sent_so_far (Some l) = length l.told.sent

-- What is told of a connection that had been sent so many bytes before, if there is one.
abbrev pub told : ℕ → Option Linked → List ℕ
told before None = []
told before (Some l) = sent_line l.number (drop before l.told.sent) ++ closed_line l.number l.told.conn

-- What is told of the connections of these numbers, by how they were before and after, one after another.
abbrev pub all_told : List ℕ → List Linked → List Linked → List ℕ
all_told [] before after = []
all_told (number ∷ numbers) before after =
    told (sent_so_far (linked_at number before)) (linked_at number after) ++ all_told numbers before after

-- A connection before the others, unless it is closed.
abbrev pub unless_closed : Linked → List Linked → List Linked
unless_closed l ls = by l.told.conn where
  by : Conn → List Linked
  by (conns.Live live) = l ∷ ls
  by (conns.Closed reason) = ls

-- The connections without that of this number, where it is closed.
abbrev pub left_by : ℕ → List Linked → List Linked
left_by number [] = []
left_by number (l ∷ ls) = if l.number == number then unless_closed l ls else l ∷ left_by number ls

-- The connections without those of these numbers that are closed.
abbrev pub all_left : List ℕ → List Linked → List Linked
all_left [] ls = ls
all_left (number ∷ numbers) ls = all_left numbers (left_by number ls)
