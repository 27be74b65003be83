-- A function value that reads expressions to a depth, whatever columns they may name.
use Rattle.std.specs.Prelude.{ℕ, List, Result}
use Rattle.std.specs.declared.alloc.Global.{Global}
use denote.Ref.{Bor, MutBor}
use Rattle.row_types.specs.declared.columns.Column.{Column}
use Rattle.sql_parse.specs.declared.faults.Unread.{Unread}
use Rattle.sql_parse.specs.declared.trees.Tree.{Tree}
use Rattle.sql_parse.specs.declared.grammar.Level.{Level}
use Rattle.sql_parse.specs.Input.{Input, Reads}
use Rattle.sql_parse.specs.Grammar.{expr}

pub record Nests (nest : ℕ) (pre : Global → Bor (List Column) → MutBor Input → ℕ → Level → Type 0)
    (post : Global → Bor (List Column) → MutBor Input → ℕ → Level → Result Tree Unread → MutBor Input → Type 0) : Type 0 where
  pub callable : (alloc : Global) (columns : Bor (List Column)) (old : MutBor Input) (level : Level) → pre alloc columns old nest level
  pub reads : (alloc : Global) (columns : Bor (List Column)) (old new : MutBor Input) (level : Level) (r : Result Tree Unread) →
      post alloc columns old nest level r new → Reads (expr columns.now nest level old.now) r new.now
