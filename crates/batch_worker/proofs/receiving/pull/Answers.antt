use Rattle.std.proofs.Common.{◌≡◌, ℕ, ◌<◌, List, length, take, inl, inr, refl, ◌∙◌, arith, length-take-le}
use Rattle.line_pipeline.specs.declared.conns.Conn.{Conn}
use Rattle.line_pipeline.specs.declared.reasons.Reason.TheVariants as reasons
use Rattle.line_pipeline.specs.Conn.{room_of, fed, ended, closed}
use Rattle.line_pipeline.specs.Gathered.{conn_of}
use Rattle.batch_worker.proofs.Rooms.{room-most}
use Rattle.batch_worker.proofs.Lookups.{keeps-changed, conn_of-own, found-is}
use Rattle.batch_worker.proofs.receiving.pull.Goals as goal

-- the link was given as many places as there is room for
size : (new old : List ℕ) (room : ℕ) (conn : Conn) → room_of conn ≡ room → length old ≡ 131072 → length new ≡ length (take room old) → length new ≡ room
size new old room conn is whole same =
    let few = room-most conn in
    omega (arith, same, length-take-le room old (omega (arith, few, is, whole)))

some : (room : ℕ) (conn : Conn) → room_of conn ≡ room → (room ≡ 0 → ⊥) → 0 < room_of conn
some room conn is none = omega (arith, is, none)

pub returns-then-room-eq0-clause-step : goal.returns-then-room-eq0-clause-step
returns-then-room-eq0-clause-step g c =
    inl (found-is room_of _ _ c.room-room.ensures ∙ c.if-room-eq0.true, refl)

pub returns-in-Got-clause-keeps : goal.returns-in-Got-clause-keeps
returns-in-Got-clause-keeps g c = keeps-changed _ c.args.id c.args.table.now c.feed.new.self c.feed.ensures

pub returns-in-Got-clause-step : goal.returns-in-Got-clause-step
returns-in-Got-clause-step g c =
    let bytes = take c.in-Got.count c.recv.new.buffer in
    let gives = c.in-Got.ensures.gives in
    let room = found-is room_of _ _ c.room-room.ensures in
    let whole = size c.recv.new.buffer c.args.buffer.now c.room-room.result (conn_of c.args.table.now.conns c.args.id) room c.requires.buffer c.recv.auto.buffer in
    let len = length-take-le c.in-Got.count c.recv.new.buffer gives.1 in (
      bytes,
      omega (arith, len, gives.0),
      record {
        gave = gives.2;
        fits = omega (arith, len, gives.1, whole, room);
        conn = conn_of-own (fed bytes) c.args.id c.args.table.now c.feed.new.self c.feed.ensures c.requires.held;
      },
    )

pub returns-in-NotYet-clause-step : goal.returns-in-NotYet-clause-step
returns-in-NotYet-clause-step g c =
    inr (
      some c.room-room.result (conn_of c.args.table.now.conns c.args.id) (found-is room_of _ _ c.room-room.ensures) c.if-room-eq0.false,
      inr (inl (record { none = c.in-NotYet.ensures.gives.0; link = c.in-NotYet.ensures.gives.1; conn = refl })),
    )

pub returns-in-End-clause-keeps : goal.returns-in-End-clause-keeps
returns-in-End-clause-keeps g c = keeps-changed ended c.args.id c.args.table.now c.end.new.self c.end.ensures

pub returns-in-End-clause-step : goal.returns-in-End-clause-step
returns-in-End-clause-step g c =
    let gives = c.in-End.ensures.gives in
    inr (
      some c.room-room.result (conn_of c.args.table.now.conns c.args.id) (found-is room_of _ _ c.room-room.ensures) c.if-room-eq0.false,
      inr (inr (record {
        none = gives.1;
        goes = gives.0;
        link = gives.2;
        conn = conn_of-own ended c.args.id c.args.table.now c.end.new.self c.end.ensures c.requires.held;
      })),
    )

pub returns-in-Failed-clause-keeps : goal.returns-in-Failed-clause-keeps
returns-in-Failed-clause-keeps g c = keeps-changed (closed reasons.LinkFault) c.args.id c.args.table.now c.fail.new.self c.fail.ensures

pub returns-in-Failed-clause-step : goal.returns-in-Failed-clause-step
returns-in-Failed-clause-step g c =
    inr (
      some c.room-room.result (conn_of c.args.table.now.conns c.args.id) (found-is room_of _ _ c.room-room.ensures) c.if-room-eq0.false,
      inl (record {
        link = c.in-Failed.ensures.gives;
        conn = conn_of-own (closed reasons.LinkFault) c.args.id c.args.table.now c.fail.new.self c.fail.ensures c.requires.held;
      }),
    )
