-- What contracts see of connections and their links, beside the tables.
use Rattle.std.specs.Prelude.{List}
use Rattle.row_types.specs.declared.tables.Schema.{Schema}
use Rattle.line_pipeline.specs.declared.secrets.Secrets.{Secrets}
use Rattle.replay_turns.specs.Linked.{Linked}

-- The schema and the secrets that lines are read by, and the connections that are open.
pub record Connected : Type 0 where
  pub schema : Schema
  pub secrets : Secrets
  pub conns : List Linked
