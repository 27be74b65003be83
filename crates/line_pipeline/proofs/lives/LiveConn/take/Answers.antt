use Rattle.std.proofs.Common.{sym, subst}
use Rattle.open_index.specs.Fits.{HandlesFit}
use Rattle.line_pipeline.specs.Live.{Live}
use Rattle.line_pipeline.proofs.lives.LiveConn.take.Goals as goal

pub returns-clause-fits : goal.returns-clause-fits
returns-clause-fits c = λ valid fits.
    c.read_lines.ensures.fits valid (subst (λ (l : Live). HandlesFit c.args.schema.now l.handles) (sym c.self.view_is) fits)
