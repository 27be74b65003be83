use Rattle.std.proofs.Common.{◌≡◌, ◌∙◌, ◌++◌, ℕ, List, sym, ap}
use Rattle.table_rows.specs.Database.{Database}
use Rattle.replay_turns.specs.Linked.{Linked}
use Rattle.replay_turns.specs.Told.{all_told}
use Rattle.replay_turns.specs.Telling.{told_each}
use Rattle.replay_turns.specs.Session.{SessionOn, session_on, answered, turn}
use Rattle.replay_turns.proofs.ToldLines.{each-told}
use Rattle.replay_turns.proofs.sessions.Session.turn.Goals as goal

pub returns-clause-text : goal.returns-clause-text
returns-clause-text g c =
    let k = c.self.inside.connections in
    let rows = g.B.RunsBatches.rows in
    let text = c.args.text.now.items in
    let listed = c.args.listed.now in
    let later = c.answer.new.self.conns in
    let end = c.in_ok-end.end in
    let after : (answered end k.schema listed (rows c.self.inside.book) k.conns).1 ≡ later = ap (λ (r : Database × List Linked). r.1) c.in_ok-end.ensures.answered in
    c.in_ok-tell_all.ensures
    ∙ ap (λ (counts : List ℕ). text ++ told_each listed counts later) (c.deref.ensures.value ∙ c.in_ok-counts.ensures)
    ∙ ap (λ (t : List ℕ). text ++ t) (each-told listed k.conns later)
    ∙ ap (λ (ls : List Linked). text ++ all_told listed k.conns ls) (sym after)
    ∙ ap (λ (s : SessionOn _). text ++ (turn end listed (session_on rows s)).0) c.self.view_is
