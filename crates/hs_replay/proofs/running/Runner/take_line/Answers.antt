use Rattle.std.proofs.Common.{◌∙◌, [], Option, IfSome, subst, sym}
use Rattle.replay_script.specs.declared.events.Event.{Event}
use Rattle.replay_script.specs.Spelling.{IsEvent}
use Rattle.replay_script.proofs.EventsFit.{said_fits}
use Rattle.hs_replay.specs.declared.ends.Step.{Step}
use Rattle.hs_replay.specs.Running.{Held, StepDoes}
use Rattle.hs_replay.proofs.LineSteps.{refused_here, done_here, first_of}
use Rattle.hs_replay.proofs.running.Runner.take_line.Goals as goal

pub returns-in_default-event-clause-does : goal.returns-in_default-event-clause-does
returns-in_default-event-clause-does g c =
    let out = g.K.Sink.taker c.args.out.now in
    let new : Held = record { bytes = c.take_line.new.self; lines = c.self.inside.lines; state = c.self.inside.replay } in
    subst (λ (step : Step). StepDoes step c.args.self.now new out out []) (sym c.no_event.ensures)
    (refused_here _ c.args.self.now c.in-Ok-Some.line c.take_line.new.self out c.in-Some.number c.self.view_is
    (first_of c.in-Ok-Some.field-0 c.in-Ok-Some.line c.self.inside.held c.take_line.new.self c.in-Ok-Some.field-0-is c.in-Ok-Some.ensures.first) c.in-Ok-Some.ensures.rest (sym c.in-Ok.ensures ∙ c.in_default-event.is) c.in-Some.ensures.1)

pub take_event-outcome-requires : goal.take_event-outcome-requires
take_event-outcome-requires g c =
    subst (λ (said : Option Event). IfSome said IsEvent) (sym c.in-Ok.ensures ∙ c.in-Some-event.is) (said_fits c.in-Ok-Some.line)

pub returns-clause-does : goal.returns-clause-does
returns-clause-does g c =
    let before = g.K.Sink.taker c.args.out.now in
    let now = g.K.Sink.taker c.take_event-outcome.new.out in
    let new : Held = record { bytes = c.take_line.new.self; lines = c.in-Some.number; state = c.take_event-outcome.new.self } in
    subst (λ (step : Step). StepDoes step c.args.self.now new before now []) (sym c.step_of.ensures)
    (done_here c.take_event-outcome.result _ c.args.self.now c.in-Ok-Some.line c.take_line.new.self c.in-Some-event.event c.take_event-outcome.new.self before now c.in-Some.number c.self.view_is
    (first_of c.in-Ok-Some.field-0 c.in-Ok-Some.line c.self.inside.held c.take_line.new.self c.in-Ok-Some.field-0-is c.in-Ok-Some.ensures.first) c.in-Ok-Some.ensures.rest (sym c.in-Ok.ensures ∙ c.in-Some-event.is) c.in-Some.ensures.1 c.take_event-outcome.ensures.does)
