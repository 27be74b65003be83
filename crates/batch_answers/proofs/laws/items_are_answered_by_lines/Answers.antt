use Rattle.batch_answers.proofs.ReplyLines.{answered_line, lines_for}
use Rattle.batch_answers.proofs.laws.items_are_answered_by_lines.Goals as goal

pub returns-clause-each : goal.returns-clause-each
returns-clause-each c = answered_line

pub returns-clause-of_a_connection : goal.returns-clause-of_a_connection
returns-clause-of_a_connection c = lines_for
