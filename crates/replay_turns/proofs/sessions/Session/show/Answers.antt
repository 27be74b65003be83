use Rattle.std.proofs.Common.{length, ap, arith}
use Rattle.row_types.specs.declared.tables.Schema.{Schema}
use Rattle.table_rows.specs.Valid.{AreValidRows}
use Rattle.table_rows.proofs.States.{zip_long}
use Rattle.replay_turns.proofs.sessions.Session.show.Goals as goal

pub push_rows-requires : goal.push_rows-requires
push_rows-requires g c =
    let state = c.tables-tables.result.now in
    omega (arith, c.in-Some.ensures.within, ap length c.as_slice.ensures, ap (λ (s : Schema). length s.tables) c.schema.ensures.schema, zip_long AreValidRows state.schema.tables state.tables c.schema.ensures.valid.tables)
