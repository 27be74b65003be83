-- Bytes that a link took, call by call.
use Rattle.std.proofs.Common.{◌≡◌, ℕ, ◌+◌, ◌<◌, List, [], ◌++◌, length, Option, Some, None, option_map, refl, sym, ap, ◌∙◌, arith, length-append, append_assoc}
use Rattle.std.specs.Io.KnownBytes.{append_known}
use Rattle.hs_outside.specs.Links.{Peer, Took}
use Rattle.line_pipeline.specs.Conn.{unsent_of, sent_off}
use Rattle.batch_worker.specs.Linked.{Linked}
use Rattle.batch_worker.specs.Sending.{IsSent}
use Rattle.batch_worker.proofs.Rooms.{off-none, off-twice}
use Rattle.batch_worker.proofs.Hearing.{append-none, append-two, goes_two}

-- a room with so much more
abbrev pub roomier : ℕ → Option (Option ℕ) → Option (Option ℕ)
roomier count room = option_map (option_map (λ n. n + count)) room

roomier-none : (room : Option (Option ℕ)) → roomier 0 room ≡ room
roomier-none None = refl
roomier-none (Some None) = refl
roomier-none (Some (Some n)) = ap (λ (m : ℕ). Some (Some m)) (omega arith)

roomier-two : (m n : ℕ) (room : Option (Option ℕ)) → roomier m (roomier n room) ≡ roomier (m + n) room
roomier-two m n None = refl
roomier-two m n (Some None) = refl
roomier-two m n (Some (Some room)) = ap (λ (k : ℕ). Some (Some k)) (omega arith)

pub took-none : (p : Peer) → Took p p []
took-none p = record {
  goes = λ more. absurd (omega (arith, more));
  fits = sym (roomier-none p.room);
  rest = ap (λ (bytes : Option (List ℕ)). record p { sent = bytes }) (sym (append-none p.sent));
}

pub took-two : (p q r : Peer) (x y : List ℕ) → Took p q x → Took q r y → Took p r (x ++ y)
took-two p q r x y first second = record {
  goes = goes_two p q x y (ap (λ (s : Peer). s.fails_next) first.rest) first.goes second.goes;
  fits = first.fits ∙ ap (roomier (length x)) second.fits ∙ roomier-two (length x) (length y) r.room
      ∙ ap (λ (n : ℕ). roomier n r.room) (sym (length-append x y));
  rest = second.rest
      ∙ ap (λ (s : Peer). record s { sent = append_known s.sent y; room = r.room }) first.rest
      ∙ ap (λ (bytes : Option (List ℕ)). record p { sent = bytes; room = r.room }) (append-two p.sent x y);
}

pub sent-none : (l : Linked) → IsSent l l []
sent-none l = record { took = took-none l.peer; waited = refl; conn = sym (off-none l.conn) }

pub sent-two : (k l m : Linked) (x y : List ℕ) → IsSent k l x → IsSent l m y → IsSent k m (x ++ y)
sent-two k l m x y first second = record {
  took = took-two k.peer l.peer m.peer x y first.took second.took;
  waited = first.waited ∙ ap (λ (t : List ℕ). x ++ t) second.waited ∙ sym (append_assoc x y (unsent_of m.conn));
  conn = second.conn ∙ ap (sent_off (length y)) first.conn ∙ off-twice (length y) (length x) k.conn
      ∙ ap (λ (n : ℕ). sent_off n k.conn) (sym (length-append x y));
}

pub sent-less : (l m : Linked) (bytes : List ℕ) → 0 < length bytes → IsSent l m bytes → length (unsent_of m.conn) < length (unsent_of l.conn)
sent-less l m bytes some is = omega (arith, some, ap length is.waited, length-append bytes (unsent_of m.conn))
