-- How a run ends, and what the script and the output are then.
use Rattle.std.specs.Prelude.{◌≡◌, ◌≢◌, ℕ, Bool, true, List, [], ◌∷◌, ◌++◌, Option, Some, None, Result, codes, decimal, ◌==◌, ◌||◌}
use Rattle.hs_outside.specs.Streams.{Giver, Taker, Gave, IsAll, Grew, GrewPart, Rose, SendDoes}
use Rattle.hs_outside.specs.declared.sinks.Failed.{Failed}
use Rattle.hs_replay.specs.Script.{script_text, bad_line_of, bad_whole_line_of}
use Rattle.hs_schema.specs.declared.faults.SchemaRule.{SchemaRule}
use Rattle.hs_schema.specs.declared.faults.SchemaRule.TheVariants as rules
use Rattle.hs_replay.specs.declared.ends.Flaw.{Flaw}
use Rattle.hs_replay.specs.declared.ends.Flaw.TheVariants.{NoEvent, BadTable}
use Rattle.hs_replay.specs.declared.ends.BadLine.{BadLine}
use Rattle.hs_replay.specs.declared.ends.Ending.{Ending}
use Rattle.hs_replay.specs.declared.ends.Ending.TheVariants as endings

-- The script was read to its end, no line of it is bad, and its text was printed, with no fault.
pub record IsWhole (script ended : Giver) (before now : Taker) : Type 0 where
  pub bytes : List ℕ
  pub all : IsAll script bytes
  pub gave : Gave script ended bytes
  pub none_left : IsAll ended []
  pub is_ended : ended.is_ended ≡ true
  pub none_bad : bad_line_of bytes ≡ None
  pub text : Grew before now (script_text bytes)
  pub none_unread : ended.faults ≡ script.faults
  pub none_unwritten : now.faults ≡ before.faults

-- This line of the script is the first bad one, and the text of the events before it was printed, with no fault.
pub record HasBadLine (line : BadLine) (script ended : Giver) (before now : Taker) : Type 0 where
  pub bytes : List ℕ
  pub all : IsAll script bytes
  pub given : List ℕ
  pub gave : Gave script ended given
  pub bad : bad_line_of bytes ≡ Some line
  pub text : Grew before now (script_text bytes)
  pub none_unread : ended.faults ≡ script.faults
  pub none_unwritten : now.faults ≡ before.faults

-- A read failed after these bytes, of which no whole line is bad, and the text of these lines was printed.
pub record IsUnread (script ended : Giver) (before now : Taker) : Type 0 where
  pub bytes : List ℕ
  pub gave : Gave script ended bytes
  pub none_bad : bad_whole_line_of bytes ≡ None
  pub rose : Rose script.faults ended.faults
  pub text : Grew before now (script_text bytes)
  pub none_unwritten : now.faults ≡ before.faults

-- A front of the text of the lines that were read whole was printed.
pub record IsCut (script ended : Giver) (before now : Taker) : Type 0 where
  pub given : List ℕ
  pub gave : Gave script ended given
  pub text : GrewPart before now (script_text given)
  pub none_unread : ended.faults ≡ script.faults

-- What stands at each ending of a run.
abbrev pub Ends : Ending → Giver → Giver → Taker → Taker → Type 0
Ends endings.Whole script ended before now = IsWhole script ended before now
Ends (endings.Bad line) script ended before now = HasBadLine line script ended before now
Ends endings.Unread script ended before now = IsUnread script ended before now
Ends endings.Unwritten script ended before now = IsCut script ended before now × Rose before.faults now.faults
Ends endings.Memory script ended before now = IsCut script ended before now × (now.faults ≡ before.faults)

-- The words are a command: `replay` and a journal, which has a name.
pub record IsCommand (words : List (List ℕ)) : Type 0 where
  pub journal : List ℕ
  pub is : words ≡ codes "replay" ∷ journal ∷ []
  pub named : journal ≢ []

-- The lines on the error output, one for each way to fail.
abbrev pub usage_line : List ℕ
usage_line = codes "usage: hs_tool replay <journal> or hs_tool load <n> <journal>\n"

abbrev pub script_line : ℕ → List ℕ
script_line k = codes "script line " ++ decimal k ++ codes "\n"

-- The word of a schema's rule, between blanks.
abbrev pub rule_word : SchemaRule → List ℕ
rule_word rules.BadName = codes " badname "
rule_word rules.BadKind = codes " badkind "
rule_word rules.DuplicateName = codes " duplicate "
rule_word rules.NoPrimary = codes " noprimary "
rule_word rules.TooMany = codes " toomany "

abbrev pub schema_line : ℕ → SchemaRule → ℕ → List ℕ
schema_line k rule token =
    codes "schema line " ++ decimal k ++ rule_word rule ++ decimal token ++ codes "\n"

-- The line of this number with this flaw.
abbrev pub flaw_line : ℕ → Flaw → List ℕ
flaw_line k NoEvent = script_line k
flaw_line k (BadTable rule token) = schema_line k rule token

abbrev pub read_line : List ℕ
read_line = codes "read fault\n"

abbrev pub write_line : List ℕ
write_line = codes "write fault\n"

abbrev pub memory_line : List ℕ
memory_line = codes "memory\n"

-- The line was given whole, or a front of it where a fault came.
abbrev pub Said : Taker → Taker → List ℕ → Type 0
Said old new line = (sent : Result (Unit {0}) Failed) × SendDoes sent old new line

-- The status of a bad line: 3 where a table line breaks a rule, and else 4.
abbrev pub flaw_status : Flaw → ℕ
flaw_status NoEvent = 4
flaw_status (BadTable rule token) = 3

-- The status of a script that is read and printed whole, up to its first bad line.
abbrev pub status_of : Option BadLine → ℕ
status_of None = 0
status_of (Some line) = flaw_status line.flaw

-- The statuses that a call may answer.
abbrev pub is_status : ℕ → Bool
is_status n = n == 0 || n == 2 || n == 3 || n == 4 || n == 5 || n == 6 || n == 8
