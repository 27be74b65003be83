use Rattle.std.proofs.Common.{◌∙◌, ap, sym}
use Rattle.hs_schema.specs.Reading.{table_at}
use Rattle.hs_schema.proofs.TableFacts.{stays_valid}
use Rattle.hs_schema.proofs.schemas.SchemaSchemaLines.add_table.Goals as goal

pub returns-in_ok-push-in-Ok-clause-valid : goal.returns-in_ok-push-in-Ok-clause-valid
returns-in_ok-push-in-Ok-clause-valid c =
    let line = c.args.line.now in
    stays_valid c.args.self.now.tables c.push.new.self line c.in-Ok.table c.requires (ap (λ ts. table_at ts line) (sym c.as_slice-tables.ensures) ∙ c.in-Ok.ensures) c.in_ok-push-in-Ok.ensures.ok
