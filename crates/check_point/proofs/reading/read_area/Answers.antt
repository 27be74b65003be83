use Rattle.std.proofs.Common.{inr, Bool, Ok, refl, ap}
use Rattle.check_point.proofs.ReadAreas.{applied_makes, refused_none}
use Rattle.check_point.proofs.reading.read_area.Goals as goal

pub returns-then-branch-clause-made : goal.returns-then-branch-clause-made
returns-then-branch-clause-made c =
    let both = c.in_ok-apply.ensures.applied (ap (λ (b : Bool). Ok b) c.if-branch.true) in
    applied_makes c.args.schema.now c.args.bytes_max c.args.bytes.now c.in_ok-set.set.changes c.in_ok-tables.tables c.in_ok-tables.ensures c.in_ok-set.ensures.exact c.apply.new.tables both.0 both.1

pub returns-clause-refused : goal.returns-clause-refused
returns-clause-refused c =
    let both = c.in_ok-apply.ensures.refused (ap (λ (b : Bool). Ok b) c.if-branch.false) in
    inr (refl, refused_none c.args.schema.now c.args.bytes_max c.args.bytes.now c.in_ok-set.set.changes c.in_ok-tables.tables c.in_ok-tables.ensures c.in_ok-set.ensures.exact both.0)
