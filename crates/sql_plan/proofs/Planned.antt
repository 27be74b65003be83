-- The plan of a condition, by what it holds and what its tests are.
use Rattle.std.proofs.Common.{◌≡◌, List, Some, if◌then◌else◌, ap₂}
use Rattle.row_types.specs.declared.indexes.IndexDef.{IndexDef}
use Rattle.table_rows.specs.Indexes.{parts_of}
use Rattle.sql_value.specs.declared.exprs.Expr.{Expr}
use Rattle.sql_plan.specs.declared.contents.Contents.{Contents}
use Rattle.sql_plan.specs.declared.plans.Plan.{Plan}
use Rattle.sql_plan.specs.declared.plans.Plan.TheVariants.{Whole}
use Rattle.sql_plan.specs.Tests.{Piece, piece_of, contents_of}
use Rattle.sql_plan.specs.Plans.{best_of, plan_by, plan_of}

abbrev pub plan_from : List IndexDef → Contents → Piece → Plan
plan_from indexes c p = if c.sums then Whole else plan_by p.tests indexes (best_of p.tests (parts_of indexes))

pub planned : (indexes : List IndexDef) (e : Expr) (c : Contents) (p : Piece) → contents_of e ≡ c → piece_of e ≡ p → plan_of (Some e) indexes ≡ plan_from indexes c p
planned indexes e c p holds is = ap₂ (plan_from indexes) holds is
