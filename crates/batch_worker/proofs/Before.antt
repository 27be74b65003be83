-- What was told before a turn, by what is told after it.
use Rattle.std.proofs.Common.{◌≡◌, Bool, false, Option, refl, ap, subst, ⊎_elim, is_some}
use Rattle.std.specs.Prelude.{IsSome}
use Rattle.std.proofs.lemmas.Bool.{both_ways}
use Rattle.hs_outside.specs.Links.{Peer, Broke}
use Rattle.batch_worker.specs.Linked.{Linked}
use Rattle.batch_worker.specs.Receiving.{Receives, StopsHearing}
use Rattle.batch_worker.specs.Sending.{Sends, StopsSending, Passes}

-- a link that still tells which calls fail told it before
abbrev pub ToldBefore : Peer → Peer → Type 0
ToldBefore p q = IsSome q.fails_next → IsSome p.fails_next

same-before : (p q : Peer) → q.fails_next ≡ p.fails_next → ToldBefore p q
same-before p q same told = subst (λ (o : Option Bool). IsSome o) same told

broke-before : (p q : Peer) → Broke p q → ToldBefore p q
broke-before p q broke told =
    ⊎_elim
    (λ none. absurd (both_ways false refl (subst (λ (o : Option Bool). IsSome o) none told)))
    (λ both. ap (λ (o : Option Bool). is_some o) both.0)
    broke.1

hearing-before : (l m : Linked) → StopsHearing l m → ToldBefore l.peer m.peer
hearing-before l m stops =
    ⊎_elim
    (λ full. same-before l.peer m.peer (ap (λ (x : Linked). x.peer.fails_next) full.1))
    (λ on.
    ⊎_elim
    (λ fails. broke-before l.peer m.peer fails.link)
    (λ goes.
    ⊎_elim
    (λ nothing. same-before l.peer m.peer (ap (λ (p : Peer). p.fails_next) nothing.link.1))
    (λ end. same-before l.peer m.peer (ap (λ (p : Peer). p.fails_next) end.link))
    goes)
    on.1)
    stops

pub receives-before : (k m : Linked) → IsSome m.peer.fails_next → Receives k m → IsSome k.peer.fails_next
receives-before k m told r =
    same-before k.peer r.heard.peer (ap (λ (p : Peer). p.fails_next) r.hears.gave.rest) (hearing-before r.heard m r.stops told)

sending-before : (l m : Linked) → StopsSending l m → ToldBefore l.peer m.peer
sending-before l m stops =
    ⊎_elim
    (λ none. same-before l.peer m.peer (ap (λ (x : Linked). x.peer.fails_next) none.1))
    (λ some.
    ⊎_elim
    (λ fails. broke-before l.peer m.peer fails.link)
    (λ held. same-before l.peer m.peer (ap (λ (p : Peer). p.fails_next) held.link.1))
    some.1)
    stops

pub sends-before : (k m : Linked) → IsSome m.peer.fails_next → Sends k m → IsSome k.peer.fails_next
sends-before k m told s =
    same-before k.peer s.sent.peer (ap (λ (p : Peer). p.fails_next) s.is_sent.took.rest) (sending-before s.sent m s.stops told)

pub passes-before : (k m : Linked) → IsSome m.peer.fails_next → Passes k m → IsSome k.peer.fails_next
passes-before k m told p =
    sends-before k p.after (subst (λ (x : Linked). IsSome x.peer.fails_next) p.is told) p.sends
