use Rattle.std.proofs.Common.{refl, ap, subst, ◌∙◌, List, ℕ}
use Rattle.std.specs.Prelude.{option_copied}
use Rattle.table_rows.specs.Database.{database_of}
use Rattle.check_point.specs.Area.{IsNoArea}
use Rattle.check_point.proofs.ReadAreas.{empty_holds}
use Rattle.table_recovery.specs.Answers.{MakesNothing}
use Rattle.table_recovery.proofs.RefusedLemmas.{no_area}
use Rattle.table_recovery.proofs.leading.begin.Goals as goal

pub returns-in_ok-new-in-None-clause-begins : goal.returns-in_ok-new-in-None-clause-begins
returns-in_ok-new-in-None-clause-begins c =
    rw c.in-None.is (ap database_of c.in_ok-new-in-None.ensures ∙ empty_holds c.args.schema.now c.args.bytes_max)

pub returns-in-Err-Bad-clause-refused : goal.returns-in-Err-Bad-clause-refused
returns-in-Err-Bad-clause-refused c =
    let nothing = no_area c.args.schema.now c.args.bytes_max c.as_slice.result.now c.in-Err-Bad.field-0-0 (subst (IsNoArea c.args.schema.now c.args.bytes_max c.as_slice.result.now) c.in-Err-Bad.field-0-is c.in-Err-Bad.ensures.refused) in
    (refl, (c.in-Some.area.now, ap option_copied c.in-Some.is, subst (λ (area : List ℕ). MakesNothing c.args.schema.now c.args.bytes_max area) c.as_slice.ensures nothing))
