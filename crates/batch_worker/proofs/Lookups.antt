-- A table of which one connection was changed.
use Rattle.std.proofs.Common.{◌≡◌, ℕ, Bool, true, false, ◌||◌, List, [], ◌∷◌, Option, Some, None, option_map, is_some, refl, ap, ◌∙◌, ⊎_elim}
use Rattle.std.specs.Prelude.{IfSome}
use Rattle.std.proofs.lemmas.Bool.{cases_Bool}
use Rattle.request_types.specs.declared.connections.ConnId.{ConnId}
use Rattle.line_pipeline.specs.declared.conns.Conn.{Conn}
use Rattle.line_pipeline.specs.Output.{IsFront}
use Rattle.line_pipeline.specs.Conn.{unsent_of}
use Rattle.request_types.specs.Ids.{same_id}
use Rattle.line_pipeline.specs.Table.{Table, conn_at, is_held, changed, all_changed}
use Rattle.line_pipeline.proofs.TableLemmas.{conn_at-changed, kept}
use Rattle.line_pipeline.specs.Gathered.{conn_or_none, conn_of}
use Rattle.batch_worker.specs.Steps.{Keeps}

-- ---- the connection of this id

pub conn_at-own : (f : Conn → Conn) (id : ConnId) (cs : List (ConnId × Conn)) → conn_at (changed id f cs) id ≡ option_map f (conn_at cs id)
conn_at-own f id [] = refl
conn_at-own f id (c ∷ cs) =
    ⊎_elim
    (λ is. rw is (rw is refl))
    (λ other. rw other (rw other (conn_at-own f id cs)))
    (cases_Bool (same_id c.0 id))

pub held-map : (f : Conn → Conn) (o : Option Conn) → is_some (option_map f o) ≡ is_some o
held-map f None = refl
held-map f (Some conn) = refl

pub or_none-map : (f : Conn → Conn) (o : Option Conn) → is_some o ≡ true → conn_or_none (option_map f o) ≡ f (conn_or_none o)
or_none-map f None is = cc
or_none-map f (Some conn) is = refl

pub conn_of-own : (f : Conn → Conn) (id : ConnId) (old new : Table) → new ≡ record old { conns = changed id f old.conns } → is_held old.conns id ≡ true → conn_of new.conns id ≡ f (conn_of old.conns id)
conn_of-own f id old new is held =
    ap (λ (t : Table). conn_of t.conns id) is
    ∙ ap conn_or_none (conn_at-own f id old.conns)
    ∙ or_none-map f (conn_at old.conns id) held

-- what is said of the connection that is found
pub found-is : {X : Type 0} (g : Conn → X) (o : Option Conn) (x : X) → option_map g o ≡ Some x → g (conn_or_none o) ≡ x
found-is g None x is = cc
found-is g (Some conn) x is = cc

-- a connection that is held is found
pub held-is : (o : Option Conn) → is_some o ≡ true → o ≡ Some (conn_or_none o)
held-is None is = cc
held-is (Some conn) is = refl

-- ---- what is kept

pub keeps-changed : (f : Conn → Conn) (id : ConnId) (old new : Table) → new ≡ record old { conns = changed id f old.conns } → Keeps id old new
keeps-changed f id old new is =
    let at : conn_at new.conns id ≡ option_map f (conn_at old.conns id) = ap (λ (t : Table). conn_at t.conns id) is ∙ conn_at-own f id old.conns in
    record {
      rest = kept old old new _ refl is;
      others = λ other apart. ap (λ (t : Table). conn_at t.conns other) is ∙ conn_at-changed f id other old.conns apart;
      held = λ held. ap (λ (o : Option Conn). is_some o) at ∙ held-map f (conn_at old.conns id) ∙ held;
    }

pub keeps-none : (id : ConnId) (table : Table) → Keeps id table table
keeps-none id table = record { rest = refl; others = λ other apart. refl; held = λ held. held }

pub keeps-then : (id : ConnId) (a b c : Table) → Keeps id a b → Keeps id b c → Keeps id a c
keeps-then id a b c first second =
    record {
      rest = kept a b c _ first.rest second.rest;
      others = λ other apart. second.others other apart ∙ first.others other apart;
      held = λ held. second.held (first.held held);
    }

-- ---- a list of one id

pub or_none : (b : Bool) → (b || false) ≡ b
or_none true = refl
or_none false = refl

all_one : (f : Conn → Conn) (id : ConnId) (cs : List (ConnId × Conn)) → all_changed (id ∷ []) f cs ≡ changed id f cs
all_one f id [] = refl
all_one f id (c ∷ cs) = rw (or_none (same_id c.0 id), all_one f id cs) refl

pub one_changed : (f : Conn → Conn) (id : ConnId) (old new : Table) → new ≡ record old { conns = all_changed (id ∷ []) f old.conns } → new ≡ record old { conns = changed id f old.conns }
one_changed f id old new is = is ∙ ap (λ (cs : List (ConnId × Conn)). record old { conns = cs }) (all_one f id old.conns)

-- ---- the bytes that wait

front_by : (piece : List ℕ) (o : Option Conn) → is_some o ≡ true → IfSome o (λ conn. IsFront piece (unsent_of conn)) → IsFront piece (unsent_of (conn_or_none o))
front_by piece None is front = cc
front_by piece (Some conn) is front = front

pub front-is : (piece : List ℕ) (cs : List (ConnId × Conn)) (id : ConnId) → is_held cs id ≡ true → IfSome (conn_at cs id) (λ conn. IsFront piece (unsent_of conn)) → IsFront piece (unsent_of (conn_of cs id))
front-is piece cs id held front = front_by piece (conn_at cs id) held front

none_by : (P : Type 0) (o : Option Conn) → is_some o ≡ true → IfSome o (λ conn. P → unsent_of conn ≡ []) → P → unsent_of (conn_or_none o) ≡ []
none_by P None is none = cc
none_by P (Some conn) is none = none

pub none-waits : (P : Type 0) (cs : List (ConnId × Conn)) (id : ConnId) → is_held cs id ≡ true → IfSome (conn_at cs id) (λ conn. P → unsent_of conn ≡ []) → P → unsent_of (conn_of cs id) ≡ []
none-waits P cs id held none = none_by P (conn_at cs id) held none
