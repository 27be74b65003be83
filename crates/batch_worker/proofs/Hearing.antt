-- Bytes that a link gave, call by call.
use Rattle.std.proofs.Common.{◌≡◌, ℕ, ◌-◌, ◌<◌, Bool, false, List, [], ◌∷◌, ◌++◌, length, Option, Some, None, IfSome, refl, sym, ap, subst, ◌∙◌, arith, length-append, append_assoc}
use Rattle.std.proofs.lemmas.List.{append-nil}
use Rattle.std.specs.Io.KnownBytes.{append_known, prepend_known}
use Rattle.hs_outside.specs.Links.{Peer, Received, Goes}
use Rattle.line_pipeline.specs.Conn.{room_of, fed}
use Rattle.batch_worker.specs.Linked.{Linked}
use Rattle.batch_worker.specs.Receiving.{Hears}
use Rattle.batch_worker.proofs.Rooms.{room-fed, fed-nothing, fed-twice}

-- ---- known bytes

pub append-none : (o : Option (List ℕ)) → append_known o [] ≡ o
append-none None = refl
append-none (Some t) = ap Some (append-nil t)

pub append-two : (o : Option (List ℕ)) (x y : List ℕ) → append_known (append_known o x) y ≡ append_known o (x ++ y)
append-two None x y = refl
append-two (Some t) x y = ap Some (append_assoc t x y)

prepend-none : (o : Option (List ℕ)) → prepend_known [] o ≡ o
prepend-none None = refl
prepend-none (Some t) = refl

prepend-two : (x y : List ℕ) (o : Option (List ℕ)) → prepend_known x (prepend_known y o) ≡ prepend_known (x ++ y) o
prepend-two x y None = refl
prepend-two x y (Some t) = ap Some (sym (append_assoc x y t))

-- ---- what a link gave

pub received-none : (p : Peer) → Received p p []
received-none p = record {
  goes = λ more. absurd (omega (arith, more));
  gave = sym (prepend-none p.left);
  rest = ap (λ (bytes : Option (List ℕ)). record p { received = bytes }) (sym (append-none p.received));
}

-- two calls go where the first goes, or nothing came of it
pub goes_two : (p q : Peer) (x y : List ℕ) → q.fails_next ≡ p.fails_next → (0 < length x → Goes p) → (0 < length y → Goes q) → 0 < length (x ++ y) → Goes p
goes_two p q [] y same first second more = subst (λ (o : Option Bool). IfSome o (λ fails. fails ≡ false)) same (second more)
goes_two p q (b ∷ x) y same first second more = first (omega arith)

pub received-two : (p q r : Peer) (x y : List ℕ) → Received p q x → Received q r y → Received p r (x ++ y)
received-two p q r x y first second = record {
  goes = goes_two p q x y (ap (λ (s : Peer). s.fails_next) first.rest) first.goes second.goes;
  gave = first.gave ∙ ap (prepend_known x) second.gave ∙ prepend-two x y r.left;
  rest = second.rest
      ∙ ap (λ (s : Peer). record s { received = append_known s.received y; left = r.left }) first.rest
      ∙ ap (λ (bytes : Option (List ℕ)). record p { received = bytes; left = r.left }) (append-two p.received x y);
}

-- ---- what a connection heard

pub hears-none : (l : Linked) → Hears l l []
hears-none l = record {
  gave = received-none l.peer;
  fits = omega arith;
  conn = sym (fed-nothing l.conn);
}

pub hears-two : (k l m : Linked) (x y : List ℕ) → Hears k l x → Hears l m y → Hears k m (x ++ y)
hears-two k l m x y first second =
    let room : room_of l.conn ≡ room_of k.conn - length x = ap room_of first.conn ∙ room-fed x k.conn in
    record {
      gave = received-two k.peer l.peer m.peer x y first.gave second.gave;
      fits = omega (arith, room, first.fits, second.fits, length-append x y);
      conn = second.conn ∙ ap (fed y) first.conn ∙ fed-twice x y k.conn;
    }

pub hears-less : (l m : Linked) (bytes : List ℕ) → 0 < length bytes → Hears l m bytes → room_of m.conn < room_of l.conn
hears-less l m bytes some hears =
    let room : room_of m.conn ≡ room_of l.conn - length bytes = ap room_of hears.conn ∙ room-fed bytes l.conn in
    omega (arith, room, hears.fits, some)
