-- What a turn leaves of a connection's output, and when its link closes it.
use Rattle.std.proofs.Common.{◌≡◌, ℕ, ◌≤◌, ◌⊎◌, inl, inr, Bool, true, false, List, [], ◌∷◌, ◌++◌, length, Option, Some, None, refl, sym, ap, subst, ◌∙◌, ⊎_elim, arith, append_assoc}
use Rattle.std.specs.Prelude.{nat_lt, not, ◌&&◌}
use Rattle.std.specs.List.{concat}
use Rattle.std.specs.Io.KnownBytes.{append_known}
use Rattle.std.proofs.lemmas.Bool.{ltb-false}
use Rattle.std.proofs.lemmas.List.{append-nil}
use Rattle.fault_count.specs.Cause.{Rose}
use Rattle.hs_outside.specs.Links.{Peer}
use Rattle.hs_line.specs.Lines.{is_too_long, has_lf}
use Rattle.line_pipeline.specs.declared.conns.Conn.{Conn}
use Rattle.line_pipeline.specs.declared.conns.Conn.TheVariants as conns
use Rattle.line_pipeline.specs.declared.reasons.Reason.{Reason}
use Rattle.line_pipeline.specs.declared.reasons.Reason.TheVariants as reasons
use Rattle.line_pipeline.specs.Live.{Live, ending}
use Rattle.line_pipeline.specs.Conn.{unsent_of, fed, ended, closed, sent_off, finished}
use Rattle.batch_worker.specs.Linked.{Linked}
use Rattle.batch_worker.specs.Receiving.{Receives}
use Rattle.batch_worker.specs.Sending.{Passes}
use Rattle.batch_worker.specs.Owed.{IsServed, IsAnswered, IsOwed, AreAnswered, AreSentAlike}
use Rattle.batch_worker.proofs.Hearing.{append-none, append-two}

-- ---- one connection

pub unsent-fed : (bytes : List ℕ) (conn : Conn) → unsent_of (fed bytes conn) ≡ unsent_of conn
unsent-fed bytes (conns.Live l) = refl
unsent-fed bytes (conns.Closed reason) = refl

pub unsent-ended : (conn : Conn) → unsent_of (ended conn) ≡ unsent_of conn
unsent-ended (conns.Live l) = refl
unsent-ended (conns.Closed reason) = refl

none-by : (bytes : List ℕ) → length bytes ≤ 0 → bytes ≡ []
none-by [] few = refl
none-by (b ∷ bytes) few = absurd (omega (arith, few))

finished-by : (l : Live) (b : Bool) → nat_lt 0 (length l.unsent) ≡ b → unsent_of (finished (conns.Live l)) ≡ l.unsent
finished-by l true some = let none : ending l ≡ None = rw some refl in rw none refl
finished-by l false few =
    let nothing : l.unsent ≡ [] = none-by l.unsent (ltb-false 0 (length l.unsent) few) in
    by (ending l) refl nothing
  where
    by : (o : Option Reason) → ending l ≡ o → l.unsent ≡ [] → unsent_of (finished (conns.Live l)) ≡ l.unsent
    by None is nothing = rw is refl
    by (Some reason) is nothing = rw is (sym nothing)

pub unsent-finished : (conn : Conn) → unsent_of (finished conn) ≡ unsent_of conn
unsent-finished (conns.Live l) = finished-by l (nat_lt 0 (length l.unsent)) refl
unsent-finished (conns.Closed reason) = refl

-- a connection is closed for its link now, or stays closed as it was
closed-cases : (conn new : Conn) → new ≡ closed reasons.LinkFault conn → (new ≡ conns.Closed reasons.LinkFault) ⊎ (new ≡ conn)
closed-cases (conns.Live l) new is = inl is
closed-cases (conns.Closed reason) new is = inr is

kept-closed : (f : Conn → Conn) (conn new : Conn) (reason : Reason) → ((r : Reason) → f (conns.Closed r) ≡ conns.Closed r) → new ≡ f conn → conn ≡ conns.Closed reason → new ≡ conns.Closed reason
kept-closed f conn new reason keeps is over = is ∙ ap f over ∙ keeps reason

-- ---- receiving

receives-sent : (k m : Linked) → Receives k m → m.peer.sent ≡ k.peer.sent
receives-sent k m r =
    ⊎_elim
    (λ full. ap (λ (x : Linked). x.peer.sent) full.1)
    (λ on.
    ⊎_elim
    (λ fails. ap (λ (p : Peer). p.sent) fails.link.2)
    (λ goes.
    ⊎_elim
    (λ nothing. ap (λ (p : Peer). p.sent) nothing.link.1)
    (λ end. ap (λ (p : Peer). p.sent) end.link)
    goes)
    on.1)
    r.stops
    ∙ ap (λ (p : Peer). p.sent) r.hears.gave.rest

receives-unsent : (k m : Linked) → Receives k m → (m.conn ≡ conns.Closed reasons.LinkFault) ⊎ (unsent_of m.conn ≡ unsent_of k.conn)
receives-unsent k m r =
    let before : unsent_of r.heard.conn ≡ unsent_of k.conn = ap unsent_of r.hears.conn ∙ unsent-fed r.bytes k.conn in
    ⊎_elim
    (λ full. inr (ap (λ (x : Linked). unsent_of x.conn) full.1 ∙ before))
    (λ on.
    ⊎_elim
    (λ fails. ⊎_elim (λ over. inl over) (λ same. inr (ap unsent_of same ∙ before)) (closed-cases r.heard.conn m.conn fails.conn))
    (λ goes.
    ⊎_elim
    (λ nothing. inr (ap unsent_of nothing.conn ∙ before))
    (λ end. inr (ap unsent_of end.conn ∙ unsent-ended r.heard.conn ∙ before))
    goes)
    on.1)
    r.stops

-- ---- sending

pub passes-closed : (k m : Linked) (reason : Reason) → k.conn ≡ conns.Closed reason → Passes k m → m.conn ≡ conns.Closed reason
passes-closed k m reason over p =
    let s = p.sends in
    let sent : s.sent.conn ≡ conns.Closed reason = kept-closed (sent_off (length s.bytes)) k.conn s.sent.conn reason (λ r. refl) s.is_sent.conn over in
    let after : p.after.conn ≡ conns.Closed reason =
    ⊎_elim
    (λ none. ap (λ (x : Linked). x.conn) none.1 ∙ sent)
    (λ some.
    ⊎_elim
    (λ fails. kept-closed (closed reasons.LinkFault) s.sent.conn p.after.conn reason (λ r. refl) fails.conn sent)
    (λ held. held.conn ∙ sent)
    some.1)
    s.stops in
    ap (λ (x : Linked). x.conn) p.is ∙ ap finished after

-- what is owed once no text joins
passes-owed : (k m : Linked) → Passes k m → (m.conn ≡ conns.Closed reasons.LinkFault) ⊎ IsOwed k m []
passes-owed k m p =
    let s = p.sends in
    let grew : s.sent.peer.sent ≡ append_known k.peer.sent s.bytes = ap (λ (q : Peer). q.sent) s.is_sent.took.rest in
    let done : unsent_of m.conn ≡ unsent_of p.after.conn = ap (λ (x : Linked). unsent_of x.conn) p.is ∙ unsent-finished p.after.conn in
    let owed : p.after.peer.sent ≡ s.sent.peer.sent → unsent_of p.after.conn ≡ unsent_of s.sent.conn → IsOwed k m [] = λ same rest. record {
      sent = s.bytes;
      grew = ap (λ (x : Linked). x.peer.sent) p.is ∙ same ∙ grew;
      together = append-nil (unsent_of k.conn) ∙ s.is_sent.waited ∙ ap (λ (u : List ℕ). s.bytes ++ u) (sym (done ∙ rest));
    } in
    ⊎_elim
    (λ none. inr (owed (ap (λ (x : Linked). x.peer.sent) none.1) (ap (λ (x : Linked). unsent_of x.conn) none.1)))
    (λ some.
    ⊎_elim
    (λ fails.
    ⊎_elim
    (λ over. inl (ap (λ (x : Linked). x.conn) p.is ∙ ap finished over))
    (λ same. inr (owed (ap (λ (q : Peer). q.sent) fails.link.2) (ap unsent_of same)))
    (closed-cases s.sent.conn p.after.conn fails.conn))
    (λ held. inr (owed (ap (λ (q : Peer). q.sent) held.link.1) (ap unsent_of held.conn)))
    some.1)
    s.stops

-- ---- a turn, and turns

not-served : (conn : Conn) → conn ≡ conns.Closed reasons.LinkFault → IsServed conn → ⊥
not-served conn is served = subst IsServed is served

pub owed-turn : (old new : Linked) (text : List ℕ) → IsAnswered old new text → IsServed new.conn → IsOwed old new text
owed-turn old new text a served =
    ⊎_elim
    (λ over. absurd (not-served new.conn (passes-closed a.answered new reasons.LinkFault (a.closed reasons.LinkFault over) a.passes) served))
    (λ same.
    ⊎_elim
    (λ over. absurd (not-served new.conn over served))
    (λ owed. record {
      sent = owed.sent;
      grew = owed.grew ∙ ap (λ (p : Peer). append_known p.sent owed.sent) a.link ∙ ap (λ o. append_known o owed.sent) (receives-sent old a.heard a.receives);
      together = ap (λ (u : List ℕ). u ++ text) (sym same) ∙ sym a.owes ∙ sym (append-nil (unsent_of a.answered.conn)) ∙ owed.together;
    })
    (passes-owed a.answered new a.passes))
    (receives-unsent old a.heard a.receives)

owed-none : (l : Linked) → IsOwed l l []
owed-none l = record { sent = []; grew = sym (append-none l.peer.sent); together = append-nil (unsent_of l.conn) }

owed-two : (a b c : Linked) (x y : List ℕ) → IsOwed a b x → IsOwed b c y → IsOwed a c (x ++ y)
owed-two a b c x y first second = record {
  sent = first.sent ++ second.sent;
  grew = second.grew ∙ ap (λ o. append_known o second.sent) first.grew ∙ append-two a.peer.sent first.sent second.sent;
  together = sym (append_assoc (unsent_of a.conn) x y)
      ∙ ap (λ (t : List ℕ). t ++ y) first.together
      ∙ append_assoc first.sent (unsent_of b.conn) y
      ∙ ap (λ (t : List ℕ). first.sent ++ t) second.together
      ∙ sym (append_assoc first.sent second.sent (unsent_of c.conn));
}

pub owed-turns : (old new : Linked) (texts : List (List ℕ)) → AreAnswered old new texts → IsOwed old new (concat texts)
owed-turns old new [] same = subst (λ (x : Linked). IsOwed old x []) (sym same) (owed-none old)
owed-turns old new (text ∷ texts) turns =
    owed-two old turns.0 new text (concat texts) (owed-turn old turns.0 text turns.1 turns.2) (owed-turns turns.0 new texts turns.3)

pub sent-alike : (old new other_old other_new : Linked) (texts : List (List ℕ)) → unsent_of old.conn ≡ unsent_of other_old.conn → AreAnswered old new texts → AreAnswered other_old other_new texts → AreSentAlike old new other_old other_new
sent-alike old new other_old other_new texts same first second =
    let owed = owed-turns old new texts first in
    let other = owed-turns other_old other_new texts second in
    record {
      sent = owed.sent;
      grew = owed.grew;
      other_sent = other.sent;
      other_grew = other.grew;
      alike = sym owed.together ∙ ap (λ (u : List ℕ). u ++ concat texts) same ∙ other.together;
    }

-- ---- closed for its link

-- a change that keeps it live or closed
was-closed : (f : Conn → Conn) (conn new : Conn) → ((l : Live) → (m : Live) × (f (conns.Live l) ≡ conns.Live m)) → ((r : Reason) → f (conns.Closed r) ≡ conns.Closed r) → new ≡ f conn → new ≡ conns.Closed reasons.LinkFault → conn ≡ conns.Closed reasons.LinkFault
was-closed f (conns.Live l) new lives keeps is over = absurd (live_closed (lives l).0 (sym (lives l).1 ∙ sym is ∙ over))
  where
    live_closed : (m : Live) → ◌≡◌ {A = Conn} (conns.Live m) (conns.Closed reasons.LinkFault) → ⊥
    live_closed m is = cc
was-closed f (conns.Closed r) new lives keeps is over = sym (keeps r) ∙ sym is ∙ over

pub receives-cause : (k m : Linked) → Receives k m → m.conn ≡ conns.Closed reasons.LinkFault → (k.conn ≡ conns.Closed reasons.LinkFault) ⊎ Rose k.peer.faults m.peer.faults
receives-cause k m r over =
    let before : r.heard.conn ≡ conns.Closed reasons.LinkFault → k.conn ≡ conns.Closed reasons.LinkFault = was-closed (fed r.bytes) k.conn r.heard.conn (λ l. (_, refl)) (λ q. refl) r.hears.conn in
    let count : r.heard.peer.faults ≡ k.peer.faults = ap (λ (p : Peer). p.faults) r.hears.gave.rest in
    ⊎_elim
    (λ full. inl (before (ap (λ (x : Linked). x.conn) (sym full.1) ∙ over)))
    (λ on.
    ⊎_elim
    (λ fails. inr (subst (λ (n : ℕ). Rose n m.peer.faults) count fails.link.0))
    (λ goes.
    ⊎_elim
    (λ nothing. inl (before (sym nothing.conn ∙ over)))
    (λ end. inl (before (was-closed ended r.heard.conn m.conn (λ l. (_, refl)) (λ q. refl) end.conn over)))
    goes)
    on.1)
    r.stops

-- an end of its own is none for the link
link-by : (l : Live) (a b c : Bool) → nat_lt 0 (length l.unsent) ≡ a → is_too_long l.held ≡ b → (l.met_end && not (has_lf l.held)) ≡ c → finished (conns.Live l) ≡ conns.Closed reasons.LinkFault → ⊥
link-by l true b c e f g is = live_closed (sym here ∙ is)
  where
    here : finished (conns.Live l) ≡ conns.Live l
    here = rw e refl

    live_closed : ◌≡◌ {A = Conn} (conns.Live l) (conns.Closed reasons.LinkFault) → ⊥
    live_closed is = cc
link-by l false true c e f g is = other (sym here ∙ is)
  where
    here : finished (conns.Live l) ≡ conns.Closed reasons.TooLong
    here = rw (e, f) refl

    other : ◌≡◌ {A = Conn} (conns.Closed reasons.TooLong) (conns.Closed reasons.LinkFault) → ⊥
    other is = cc
link-by l false false true e f g is = other (sym here ∙ is)
  where
    here : finished (conns.Live l) ≡ conns.Closed reasons.Ended
    here = rw (e, f, g) refl

    other : ◌≡◌ {A = Conn} (conns.Closed reasons.Ended) (conns.Closed reasons.LinkFault) → ⊥
    other is = cc
link-by l false false false e f g is = live_closed (sym here ∙ is)
  where
    here : finished (conns.Live l) ≡ conns.Live l
    here = rw (e, f, g) refl

    live_closed : ◌≡◌ {A = Conn} (conns.Live l) (conns.Closed reasons.LinkFault) → ⊥
    live_closed is = cc

finished-link : (conn : Conn) → finished conn ≡ conns.Closed reasons.LinkFault → conn ≡ conns.Closed reasons.LinkFault
finished-link (conns.Live l) is = absurd (link-by l (nat_lt 0 (length l.unsent)) (is_too_long l.held) (l.met_end && not (has_lf l.held)) refl refl refl is)
finished-link (conns.Closed reason) is = is

pub passes-cause : (k m : Linked) → Passes k m → m.conn ≡ conns.Closed reasons.LinkFault → (k.conn ≡ conns.Closed reasons.LinkFault) ⊎ Rose k.peer.faults m.peer.faults
passes-cause k m p over =
    let s = p.sends in
    let closed_is : p.after.conn ≡ conns.Closed reasons.LinkFault = finished-link p.after.conn (sym (ap (λ (x : Linked). x.conn) p.is) ∙ over) in
    let before : s.sent.conn ≡ conns.Closed reasons.LinkFault → k.conn ≡ conns.Closed reasons.LinkFault = was-closed (sent_off (length s.bytes)) k.conn s.sent.conn (λ l. (_, refl)) (λ q. refl) s.is_sent.conn in
    let count : s.sent.peer.faults ≡ k.peer.faults = ap (λ (q : Peer). q.faults) s.is_sent.took.rest in
    let later : p.after.peer.faults ≡ m.peer.faults = sym (ap (λ (x : Linked). x.peer.faults) p.is) in
    ⊎_elim
    (λ none. inl (before (ap (λ (x : Linked). x.conn) (sym none.1) ∙ closed_is)))
    (λ some.
    ⊎_elim
    (λ fails. inr (subst (λ (n : ℕ). Rose k.peer.faults n) later (subst (λ (n : ℕ). Rose n p.after.peer.faults) count fails.link.0)))
    (λ held. inl (before (sym held.conn ∙ closed_is)))
    some.1)
    s.stops
