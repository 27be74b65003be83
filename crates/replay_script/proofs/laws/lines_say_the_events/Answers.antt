use Rattle.replay_script.proofs.EventsAgain.{event_again}
use Rattle.replay_script.proofs.EventsFit.{said_fits}
use Rattle.replay_script.proofs.laws.lines_say_the_events.Goals as goal

pub returns-clause-no_other : goal.returns-clause-no_other
returns-clause-no_other c = said_fits

pub returns-clause-each : goal.returns-clause-each
returns-clause-each c = event_again
