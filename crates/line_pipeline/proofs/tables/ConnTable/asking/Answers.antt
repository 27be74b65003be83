use Rattle.std.proofs.Common.{subst}
use Rattle.row_types.specs.Valid.{IsValid}
use Rattle.line_pipeline.specs.Fitting.{ConnsFit}
use Rattle.line_pipeline.specs.Table.{Table}
use Rattle.line_pipeline.specs.Gathered.{AreFound}
use Rattle.line_pipeline.proofs.AddLemmas.{found-from}
use Rattle.line_pipeline.proofs.tables.ConnTable.asking.Goals as goal

pub returns-in_err-push_if-clause-found : goal.returns-in_err-push_if-clause-found
returns-in_err-push_if-clause-found c = subst (λ (t : Table). AreFound t.conns t.conns) c.self.view_is (found-from 0 c.self.inside.slots.slots)

pub returns-clause-found : goal.returns-clause-found
returns-clause-found c = subst (λ (t : Table). AreFound t.conns t.conns) c.self.view_is (found-from 0 c.self.inside.slots.slots)

pub returns-in_err-push_if-clause-valid : goal.returns-in_err-push_if-clause-valid
returns-in_err-push_if-clause-valid c = subst (λ (t : Table). IsValid t.schema) c.self.view_is c.self.invariant.0

pub returns-clause-valid : goal.returns-clause-valid
returns-clause-valid c = subst (λ (t : Table). IsValid t.schema) c.self.view_is c.self.invariant.0

pub returns-in_err-push_if-clause-fits : goal.returns-in_err-push_if-clause-fits
returns-in_err-push_if-clause-fits c = subst (λ (t : Table). ConnsFit t.schema t.conns) c.self.view_is c.self.invariant.1

pub returns-clause-fits : goal.returns-clause-fits
returns-clause-fits c = subst (λ (t : Table). ConnsFit t.schema t.conns) c.self.view_is c.self.invariant.1
