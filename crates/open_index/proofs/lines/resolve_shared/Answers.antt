use Rattle.open_index.specs.declared.meanings.Meaning.TheVariants.{Opens, Asks}
use Rattle.open_index.proofs.ReadsFit.{line_fits, opened_fit}
use Rattle.open_index.proofs.lines.resolve_shared.Goals as goal

pub returns-in-Ok-Asks-clause-fits : goal.returns-in-Ok-Asks-clause-fits
returns-in-Ok-Asks-clause-fits c valid fit =
    line_fits c.args.schema.now c.args.port c.args.handles.now c.args.auth.now c.args.line.now (Asks c.in-Ok-Asks.request) valid fit (rw c.in-Ok-Asks.field-0-is at c.in-Ok-Asks.ensures)

pub returns-in_ok-open-in-Ok-Opens-clause-handles_fit : goal.returns-in_ok-open-in-Ok-Opens-clause-handles_fit
returns-in_ok-open-in-Ok-Opens-clause-handles_fit c valid fit =
    let fits = line_fits c.args.schema.now c.args.port c.args.handles.now c.args.auth.now c.args.line.now (Opens c.in-Ok-Opens.id c.in-Ok-Opens.handle) valid fit (rw c.in-Ok-Opens.field-0-is at c.in-Ok-Opens.ensures) in
    opened_fit c.args.schema.now c.args.handles.now c.open.new.self c.in-Ok-Opens.id c.in-Ok-Opens.handle fit fits c.in_ok-open-in-Ok-Opens.ensures.ok
