use Rattle.std.proofs.Common.{◌≡◌, ℕ, zero, suc, ◌<◌, ◌≤◌, List, [], ◌∷◌, ◌++◌, length, take, drop, inl, inr, refl, sym, ap, ◌∙◌, arith, length-take-le, length-append}
use Rattle.std.proofs.lemmas.Bool.{both_ways, eq-eqb}
use Rattle.line_pipeline.specs.Output.{IsFront}
use Rattle.line_pipeline.specs.declared.conns.Conn.{Conn}
use Rattle.line_pipeline.specs.declared.reasons.Reason.TheVariants as reasons
use Rattle.line_pipeline.specs.Conn.{unsent_of, sent_off, closed}
use Rattle.line_pipeline.specs.Gathered.{conn_of}
use Rattle.batch_worker.proofs.Rooms.{unsent-off}
use Rattle.batch_worker.proofs.Lookups.{keeps-changed, conn_of-own, front-is}
use Rattle.batch_worker.proofs.sending.send_once.Goals as goal

some : (piece : List ℕ) (conn : Conn) → IsFront piece (unsent_of conn) → (length piece ≡ 0 → ⊥) → 0 < length (unsent_of conn)
some piece conn front none = omega (arith, none, ap length front.parts, length-append piece front.rest)

-- what was taken, and what still waits
take_drop : (count : ℕ) (front rest : List ℕ) → count ≤ length front → front ++ rest ≡ take count front ++ drop count (front ++ rest)
take_drop zero front rest most = refl
take_drop (suc count) [] rest most = absurd (omega (arith, most))
take_drop (suc count) (b ∷ front) rest most = ap (λ (t : List ℕ). b ∷ t) (take_drop count front rest (omega (arith, most)))

waited : (count : ℕ) (piece : List ℕ) (old new : Conn) → IsFront piece (unsent_of old) → count ≤ length piece → new ≡ sent_off count old → unsent_of old ≡ take count piece ++ unsent_of new
waited count piece old new front most is =
    front.parts ∙ take_drop count piece front.rest most
    ∙ ap (λ (t : List ℕ). take count piece ++ drop count t) (sym front.parts)
    ∙ ap (λ (t : List ℕ). take count piece ++ t) (sym (ap unsent_of is ∙ unsent-off count old))

pub returns-in-Took-clause-keeps : goal.returns-in-Took-clause-keeps
returns-in-Took-clause-keeps g c = keeps-changed _ c.args.id c.args.table.now c.sent.new.self c.sent.ensures

pub returns-in-Took-clause-step : goal.returns-in-Took-clause-step
returns-in-Took-clause-step g c =
    let piece = c.unsent-piece.result.now in
    let count = c.in-Took.count in
    let takes = c.in-Took.ensures.takes in
    let old = conn_of c.args.table.now.conns c.args.id in
    let front = front-is piece c.args.table.now.conns c.args.id c.requires.held c.unsent-piece.ensures.front in
    let len = length-take-le count piece takes.1 in
    let conn = conn_of-own (sent_off count) c.args.id c.args.table.now c.sent.new.self c.sent.ensures c.requires.held in (
      take count piece,
      omega (arith, len, takes.0),
      record {
        took = takes.2;
        waited = waited count piece old _ front takes.1 conn;
        conn = conn ∙ ap (λ (n : ℕ). sent_off n old) (sym len);
      },
    )

pub returns-in-Failed-clause-keeps : goal.returns-in-Failed-clause-keeps
returns-in-Failed-clause-keeps g c = keeps-changed (closed reasons.LinkFault) c.args.id c.args.table.now c.fail.new.self c.fail.ensures

pub returns-in-Failed-clause-step : goal.returns-in-Failed-clause-step
returns-in-Failed-clause-step g c =
    let piece = c.unsent-piece.result.now in
    let front = front-is piece c.args.table.now.conns c.args.id c.requires.held c.unsent-piece.ensures.front in
    inr (
      some piece (conn_of c.args.table.now.conns c.args.id) front (λ none. both_ways _ (sym c.is_empty.ensures ∙ c.if-is_empty.false) (eq-eqb (length piece) 0 none)),
      inl (record {
        link = c.in-Failed.ensures.takes;
        conn = conn_of-own (closed reasons.LinkFault) c.args.id c.args.table.now c.fail.new.self c.fail.ensures c.requires.held;
      }),
    )
