use Rattle.std.proofs.Common.{◌∙◌, inl, refl, rules, sym}
use Rattle.hs_replay.proofs.Statuses.{flaw_told, no_other, whole_status, whole_left, whole_taken, there}
use Rattle.hs_replay.proofs.Says.{table_ends, line_ends}
use Rattle.hs_replay.proofs.program.top.Goals as goal

pub returns-then-is_none-clause-usage : goal.returns-then-is_none-clause-usage
returns-then-is_none-clause-usage g c = λ two. (refl, refl, (c.write_all.result, c.write_all.ensures.sends))

pub returns-in-Unread-clause-unread : goal.returns-in-Unread-clause-unread
returns-in-Unread-clause-unread g c = λ five. (c.in-Unread.ensures.ends, (c.write_all-in-Unread.result, c.write_all-in-Unread.ensures.sends))

pub returns-in-Unwritten-clause-unwritten : goal.returns-in-Unwritten-clause-unwritten
returns-in-Unwritten-clause-unwritten g c = λ six. (c.in-Unwritten.ensures.ends.0, c.in-Unwritten.ensures.ends.1, (c.write_all-in-Unwritten.result, c.write_all-in-Unwritten.ensures.sends))

pub returns-in-Memory-clause-memory : goal.returns-in-Memory-clause-memory
returns-in-Memory-clause-memory g c = λ eight. (c.in-Memory.ensures.ends.0, c.in-Memory.ensures.ends.1, (c.write_all-in-Memory.result, c.write_all-in-Memory.ensures.sends))

pub returns-in-Bad-clause-bad_table : goal.returns-in-Bad-clause-bad_table
returns-in-Bad-clause-bad_table g c = λ three.
    table_ends c.in-Bad.line.number c.in-Bad.line.flaw _ _ _ _ _ _ c.in-Bad.ensures.ends c.say_flaw.ensures.said (sym c.say_flaw.ensures.status ∙ three)

pub returns-in-Bad-clause-bad_line : goal.returns-in-Bad-clause-bad_line
returns-in-Bad-clause-bad_line g c = λ four.
    line_ends c.in-Bad.line.number c.in-Bad.line.flaw _ _ _ _ _ _ c.in-Bad.ensures.ends c.say_flaw.ensures.said (sym c.say_flaw.ensures.status ∙ four)

pub returns-in-Whole-clause-completes : goal.returns-in-Whole-clause-completes
returns-in-Whole-clause-completes g c = λ bytes command told unread unwritten. inl (whole_status _ _ _ _ c.in-Whole.ensures.ends bytes told)

pub returns-in-Whole-clause-told : goal.returns-in-Whole-clause-told
returns-in-Whole-clause-told g c = λ bytes taken told was zero. (whole_left _ _ _ _ c.in-Whole.ensures.ends bytes told, whole_taken _ _ _ _ c.in-Whole.ensures.ends bytes told taken was)

pub returns-in-Bad-clause-statuses : goal.returns-in-Bad-clause-statuses
returns-in-Bad-clause-statuses g c = flaw_told c.in-Bad.line.flaw c.say_flaw.result c.say_flaw.ensures.status

pub returns-in-Bad-clause-whole : goal.returns-in-Bad-clause-whole
returns-in-Bad-clause-whole g c = λ zero. absurd (no_other c.in-Bad.line.flaw c.say_flaw.result 0 c.say_flaw.ensures.status zero (λ e. cc) (λ e. cc))

pub returns-in-Bad-clause-command : goal.returns-in-Bad-clause-command
returns-in-Bad-clause-command g c = (
  λ two command. no_other c.in-Bad.line.flaw c.say_flaw.result 2 c.say_flaw.ensures.status two (λ e. cc) (λ e. cc),
  λ none. absurd (none (there _ c.path_of.result c.path_of.ensures.command (search rules))),
)

pub returns-in-Bad-clause-usage : goal.returns-in-Bad-clause-usage
returns-in-Bad-clause-usage g c = λ two. absurd (no_other c.in-Bad.line.flaw c.say_flaw.result 2 c.say_flaw.ensures.status two (λ e. cc) (λ e. cc))

pub returns-in-Bad-clause-unread : goal.returns-in-Bad-clause-unread
returns-in-Bad-clause-unread g c = λ five. absurd (no_other c.in-Bad.line.flaw c.say_flaw.result 5 c.say_flaw.ensures.status five (λ e. cc) (λ e. cc))

pub returns-in-Bad-clause-unwritten : goal.returns-in-Bad-clause-unwritten
returns-in-Bad-clause-unwritten g c = λ six. absurd (no_other c.in-Bad.line.flaw c.say_flaw.result 6 c.say_flaw.ensures.status six (λ e. cc) (λ e. cc))

pub returns-in-Bad-clause-memory : goal.returns-in-Bad-clause-memory
returns-in-Bad-clause-memory g c = λ eight. absurd (no_other c.in-Bad.line.flaw c.say_flaw.result 8 c.say_flaw.ensures.status eight (λ e. cc) (λ e. cc))

pub returns-in-Bad-clause-told : goal.returns-in-Bad-clause-told
returns-in-Bad-clause-told g c = λ bytes taken told was zero. absurd (no_other c.in-Bad.line.flaw c.say_flaw.result 0 c.say_flaw.ensures.status zero (λ e. cc) (λ e. cc))
