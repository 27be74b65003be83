-- A script that is read in part: what is held of it, and what comes of further bytes.
use Rattle.std.specs.Prelude.{◌≡◌, ℕ, ◌+◌, ◌<◌, ◌≤◌, List, [], ◌++◌, length, Option, Some, None}
use Rattle.hs_line.specs.Lines.{lines_of, rest_of}
use Rattle.hs_line.specs.declared.limits.TheConstants.{MAX_LINE_LEN}
use Rattle.hs_outside.specs.Streams.{Taker, Grew, GrewPart, Rose}
use Rattle.hs_replay.specs.Script as script
use Rattle.hs_token.specs.declared.tokens.Token.{Token}
use Rattle.hs_schema.specs.Reading.{table_at}
use Rattle.replay_script.specs.declared.events.Event.{Event}
use Rattle.replay_script.specs.declared.events.Event.TheVariants as events
use Rattle.hs_replay.specs.Script.{State, text_from, bad_line_from, after, printed, flaw_of, breach_of, bad_line}
use Rattle.hs_replay.specs.declared.ends.Flaw.TheVariants.{NoEvent}
use Rattle.hs_replay.specs.declared.ends.BadLine.{BadLine}
use Rattle.hs_replay.specs.declared.ends.Outcome.{Outcome}
use Rattle.hs_replay.specs.declared.ends.Outcome.TheVariants as outcomes
use Rattle.hs_replay.specs.declared.ends.Step.{Step}
use Rattle.hs_replay.specs.declared.ends.Step.TheVariants as steps
use Rattle.hs_replay.specs.declared.ends.Ending.{Ending}
use Rattle.hs_replay.specs.declared.ends.Ending.TheVariants as endings

-- What is held of a script: the bytes that no line was taken of yet, how many lines were, and the state that they led to.
pub record Held : Type 0 where
  pub bytes : List ℕ
  pub lines : ℕ
  pub state : State

-- Before the first byte nothing is held.
abbrev pub start : Held
start = record { bytes = []; lines = 0; state = script.start }

-- What these bytes print, behind those that are held.
abbrev pub to_print : Held → List ℕ → List ℕ
to_print held bytes = text_from held.state (lines_of (held.bytes ++ bytes))

-- The first bad line of these bytes, where this stands behind the whole lines.
abbrev pub bad_by : Held → List ℕ → List ℕ → Option BadLine
bad_by held bytes end = bad_line_from held.lines held.state (lines_of (held.bytes ++ bytes)) end

-- What stands behind the whole lines of these bytes.
abbrev pub rest_by : Held → List ℕ → List ℕ
rest_by held bytes = rest_of (held.bytes ++ bytes)

-- These bytes led from old to new, whatever follows, and what they print was printed.
pub record Leads (old new : Held) (before now : Taker) (bytes : List ℕ) : Type 0 where
  pub text : List ℕ
  pub prints : (rest : List ℕ) → to_print old (bytes ++ rest) ≡ text ++ to_print new rest
  pub behind : (rest : List ℕ) → rest_by old (bytes ++ rest) ≡ rest_by new rest
  pub bad : (rest end : List ℕ) → bad_by old (bytes ++ rest) end ≡ bad_by new rest end
  pub grew : Grew before now text
  pub unfailed : now.faults ≡ before.faults

-- A line of these bytes is bad, whatever follows, and what the lines before it print was printed.
pub record IsBad (old : Held) (before now : Taker) (bytes : List ℕ) (line : BadLine) : Type 0 where
  pub text : List ℕ
  pub prints : (rest : List ℕ) → to_print old (bytes ++ rest) ≡ text
  pub bad : (rest beyond : List ℕ) → bad_by old (bytes ++ rest) (rest_by old (bytes ++ rest) ++ beyond) ≡ Some line
  pub grew : Grew before now text
  pub unfailed : now.faults ≡ before.faults

-- What comes of these bytes: they are carried out, or a line is bad, or a write failed, or memory ran out.
abbrev pub StepDoes : Step → Held → Held → Taker → Taker → List ℕ → Type 0
StepDoes steps.Done old new before now bytes = Leads old new before now bytes
StepDoes (steps.Bad line) old new before now bytes = IsBad old before now bytes line
StepDoes steps.Unwritten old new before now bytes =
    ((rest : List ℕ) → GrewPart before now (to_print old (bytes ++ rest))) × Rose before.faults now.faults
StepDoes steps.Memory old new before now bytes =
    ((rest : List ℕ) → GrewPart before now (to_print old (bytes ++ rest))) × (now.faults ≡ before.faults)

-- What comes of an event: it is carried out and its text is printed, or it may not come, or a write failed or memory ran out.
abbrev pub EventDoes : Outcome → Event → State → State → Taker → Taker → Type 0
EventDoes outcomes.Done event old new before now =
    (flaw_of event old ≡ None) × (new ≡ after event old) × Grew before now (printed event old) × (now.faults ≡ before.faults)
EventDoes (outcomes.Refused flaw) event old new before now = (flaw_of event old ≡ Some flaw) × (now ≡ before)
EventDoes outcomes.Unwritten event old new before now =
    (flaw_of event old ≡ None) × GrewPart before now (printed event old) × Rose before.faults now.faults
EventDoes outcomes.Memory event old new before now = now ≡ before

-- What comes of a text that is to be printed.
abbrev pub PrintDoes : Outcome → List ℕ → Taker → Taker → Type 0
PrintDoes outcomes.Done text before now = Grew before now text × (now.faults ≡ before.faults)
PrintDoes (outcomes.Refused flaw) text before now = ⊥
PrintDoes outcomes.Unwritten text before now = GrewPart before now text × Rose before.faults now.faults
PrintDoes outcomes.Memory text before now = now ≡ before

-- What comes of a table line: its table stands behind the others, or it breaks a rule.
abbrev pub TableDoes : Outcome → List Token → State → State → Type 0
TableDoes outcomes.Done line old new = (breach_of (table_at old.schema.tables line) ≡ None) × (new ≡ after (events.Table line) old)
TableDoes (outcomes.Refused flaw) line old new = breach_of (table_at old.schema.tables line) ≡ Some flaw
TableDoes outcomes.Unwritten line old new = ⊥
TableDoes outcomes.Memory line old new = Unit {0}

-- The step of the line with this number, by what came of its event.
abbrev pub step_of : ℕ → Outcome → Step
step_of number outcomes.Done = steps.Done
step_of number (outcomes.Refused flaw) = steps.Bad (bad_line number flaw)
step_of number outcomes.Unwritten = steps.Unwritten
step_of number outcomes.Memory = steps.Memory

-- The bytes that are held are more than a line may have.
abbrev pub IsLongRest : Held → Type 0
IsLongRest held = MAX_LINE_LEN < length held.bytes

-- What a line that isn't whole yet is: bad, whatever its end, where it is too long already.
abbrev pub RestIs : Step → Held → Type 0
RestIs steps.Done held = length held.bytes ≤ MAX_LINE_LEN
RestIs (steps.Bad line) held = IsLongRest held × (line ≡ bad_line (held.lines + 1) NoEvent)
RestIs steps.Unwritten held = ⊥
RestIs steps.Memory held = Unit {0}

-- The line behind those that were taken is a bad one, unless its number can't be counted.
abbrev pub NextBad : Ending → Held → Type 0
NextBad (endings.Bad line) held = line ≡ bad_line (held.lines + 1) NoEvent
NextBad endings.Memory held = Unit {0}
NextBad endings.Whole held = ⊥
NextBad endings.Unread held = ⊥
NextBad endings.Unwritten held = ⊥

-- How a script ends of which no more comes than is held: nothing is held, or a line that has no end.
abbrev pub HeldEnds : Ending → Held → Type 0
HeldEnds endings.Whole held = held.bytes ≡ []
HeldEnds ending held = (0 < length held.bytes) × NextBad ending held
