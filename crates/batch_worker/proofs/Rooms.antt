-- How much room a connection has for further bytes, and what its calls make of it.
use Rattle.std.proofs.Common.{◌≡◌, ℕ, ◌+◌, ◌-◌, ◌≤◌, Bool, true, false, List, [], ◌++◌, length, drop, refl, sym, ap, ◌∙◌, arith, length-append, append_assoc}
use Rattle.std.specs.Prelude.{if◌then◌else◌}
use Rattle.std.proofs.lemmas.List.{append-nil, drop-drop, drop_all}
use Rattle.line_pipeline.specs.declared.conns.Conn.{Conn}
use Rattle.line_pipeline.specs.declared.conns.Conn.TheVariants as conns
use Rattle.line_pipeline.specs.declared.reasons.Reason.{Reason}
use Rattle.line_pipeline.specs.Live.{is_clogged}
use Rattle.line_pipeline.specs.Conn.{room_of, unsent_of, fed, ended, closed, sent_off}

room_after : (b : Bool) (most held piece : ℕ) → (if b then 0 else most - (held + piece)) ≡ (if b then 0 else most - held) - piece
room_after true most held piece = omega arith
room_after false most held piece = omega arith

-- so much less than before
pub room-fed : (piece : List ℕ) (conn : Conn) → room_of (fed piece conn) ≡ room_of conn - length piece
room-fed piece (conns.Closed reason) = omega arith
room-fed piece (conns.Live l) =
    ap (λ (n : ℕ). if is_clogged l then 0 else 131072 - n) (length-append l.held piece)
    ∙ room_after (is_clogged l) 131072 (length l.held) (length piece)

pub room-ended : (conn : Conn) → room_of (ended conn) ≡ room_of conn
room-ended (conns.Live l) = refl
room-ended (conns.Closed reason) = refl

pub room-closed : (reason : Reason) (conn : Conn) → room_of (closed reason conn) ≡ 0
room-closed reason (conns.Live l) = refl
room-closed reason (conns.Closed first) = refl

room_by : (b : Bool) (held : ℕ) → (if b then 0 else 131072 - held) ≤ 131072
room_by true held = omega arith
room_by false held = omega arith

-- never more than a buffer
pub room-most : (conn : Conn) → room_of conn ≤ 131072
room-most (conns.Live l) = room_by (is_clogged l) (length l.held)
room-most (conns.Closed reason) = omega arith

-- bytes that come in two pieces
pub fed-nothing : (conn : Conn) → fed [] conn ≡ conn
fed-nothing (conns.Live l) = ap (λ (bytes : List ℕ). conns.Live (record l { held = bytes })) (append-nil l.held)
fed-nothing (conns.Closed reason) = refl

pub fed-twice : (x y : List ℕ) (conn : Conn) → fed y (fed x conn) ≡ fed (x ++ y) conn
fed-twice x y (conns.Live l) = ap (λ (bytes : List ℕ). conns.Live (record l { held = bytes })) (append_assoc l.held x y)
fed-twice x y (conns.Closed reason) = refl

pub ended-twice : (conn : Conn) → ended (ended conn) ≡ ended conn
ended-twice (conns.Live l) = refl
ended-twice (conns.Closed reason) = refl

-- ---- bytes that were sent

pub unsent-off : (count : ℕ) (conn : Conn) → unsent_of (sent_off count conn) ≡ drop count (unsent_of conn)
unsent-off count (conns.Live l) = refl
unsent-off count (conns.Closed reason) = sym (drop_all count [] (omega arith))

pub off-twice : (m n : ℕ) (conn : Conn) → sent_off m (sent_off n conn) ≡ sent_off (n + m) conn
off-twice m n (conns.Live l) = ap (λ (bytes : List ℕ). conns.Live (record l { unsent = bytes })) (drop-drop m n l.unsent)
off-twice m n (conns.Closed reason) = refl

pub off-none : (conn : Conn) → sent_off 0 conn ≡ conn
off-none (conns.Live l) = refl
off-none (conns.Closed reason) = refl
