use Rattle.std.proofs.Common.{◌∙◌, List, sym, ap, subst}
use Rattle.request_types.specs.Ids.{are_once}
use Rattle.request_types.specs.declared.connections.ConnId.{ConnId}
use Rattle.hs_outside.specs.MemoryLink.{known_link}
use Rattle.batch_worker.specs.Solo.{Turned}
use Rattle.replay_turns.specs.declared.entries.Entry.{Entry}
use Rattle.replay_turns.specs.Connected.{Connected}
use Rattle.replay_turns.specs.Session.{answered}
use Rattle.replay_turns.specs.Entries.{ids_at, are_short}
use Rattle.replay_turns.proofs.Numbers.{ids_once}
use Rattle.replay_turns.proofs.Places.{are-still}
use Rattle.replay_turns.proofs.Answered.{turned_held, turn-is}
use Rattle.replay_turns.proofs.connections.Connections.answer.Goals as goal

pub solo_turn-end-requires-clause-once : goal.solo_turn-end-requires-clause-once
solo_turn-end-requires-clause-once g c =
    let ids_are = c.deref-2.ensures.value ∙ c.in_ok-ids.ensures ∙ ap (λ (xs : List Entry). ids_at xs c.args.listed.now) c.deref.ensures.value in
    ap are_once ids_are ∙ ids_once c.args.listed.now c.self.inside.entries.items c.self.invariant.once c.requires.once

pub invariant_of-self : goal.invariant_of-self
invariant_of-self g c =
    let t = c.self.inside.links in
    let v = c.solo_turn-end.new.links in
    are-still t.table.conns v.table.conns c.self.inside.entries.items
    (turned_held g.B.RunsBatches.rows g.B.RunsBatches.ran c.deref-2.result.now t v c.args.book.now c.solo_turn-end.new.book c.solo_turn-end.result c.solo_turn-end.ensures.turned)
    c.self.invariant

pub invariant_of-self-2 : goal.invariant_of-self-2
invariant_of-self-2 g c =
    let t = c.self.inside.links in
    let v = c.solo_turn-end.new.links in
    are-still t.table.conns v.table.conns c.self.inside.entries.items
    (turned_held g.B.RunsBatches.rows g.B.RunsBatches.ran c.deref-2.result.now t v c.args.book.now c.solo_turn-end.new.book c.solo_turn-end.result c.solo_turn-end.ensures.turned)
    c.self.invariant

pub returns-clause-answered : goal.returns-clause-answered
returns-clause-answered g c =
    let t = c.self.inside.links in
    let v = c.solo_turn-end.new.links in
    let es = c.self.inside.entries.items in
    let listed = c.args.listed.now in
    let rows = g.B.RunsBatches.rows in
    let ran = g.B.RunsBatches.ran in
    let book = c.args.book.now in
    let after = c.solo_turn-end.new.book in
    let end = c.solo_turn-end.result in
    let ids_are = c.deref-2.ensures.value ∙ c.in_ok-ids.ensures ∙ ap (λ (xs : List Entry). ids_at xs listed) c.deref.ensures.value in
    let none = ap (are_short v) (sym ids_are ∙ c.deref-2.ensures.value ∙ sym c.deref-3.ensures.value) ∙ sym c.are_short.ensures ∙ c.if-are_short.false in
    ap (λ (k : Connected). answered end k.schema listed (rows book) k.conns) (sym c.self.view_is)
    ∙ turn-is rows ran t v es c.self.invariant listed c.requires.once book after none end
    (subst (λ (i : List ConnId). Turned known_link rows ran end i t v book after) ids_are c.solo_turn-end.ensures.turned)
