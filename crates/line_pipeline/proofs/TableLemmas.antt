-- Connections of which some are changed.
use Rattle.std.proofs.Common.{◌≡◌, ℕ, ◌+◌, ◌<◌, ◌≤◌, Bool, true, false, List, [], ◌∷◌, map, length, drop, get_or, Option, Some, None, refl, sym, ap, subst, ◌∙◌, ⊎_elim, add-one, drop-cons}
use Rattle.std.specs.Prelude.{if◌then◌else◌}
use Rattle.std.proofs.lemmas.Bool.{cases_Bool, or_parts}
use Rattle.std.proofs.lemmas.List.{drop_all}
use Rattle.request_types.specs.declared.connections.ConnId.{ConnId}
use Rattle.row_types.specs.declared.tables.Schema.{Schema}
use Rattle.hs_line.specs.Lines.{has_lf}
use Rattle.line_pipeline.specs.declared.conns.Conn.{Conn}
use Rattle.line_pipeline.specs.declared.conns.Conn.TheVariants as conns
use Rattle.line_pipeline.specs.declared.reasons.Reason.{Reason}
use Rattle.line_pipeline.specs.declared.secrets.Secrets.{Secrets}
use Rattle.line_pipeline.specs.Live.{Live, ending}
use Rattle.line_pipeline.specs.Conn.{closed, place_used, refused, finished}
use Rattle.request_types.specs.Ids.{same_id, is_listed}
use Rattle.line_pipeline.specs.Table.{Table, conn_at, changed, all_changed}
use Rattle.line_pipeline.specs.Gathered.{batch_of}
use Rattle.request_types.proofs.Ids.{same_id-other, same_id-is}

pub both : (g h k : ConnId × Conn → ConnId × Conn) → ((c : ConnId × Conn) → g (h c) ≡ k c) → (cs : List (ConnId × Conn)) → map g (map h cs) ≡ map k cs
both g h k each [] = refl
both g h k each (c ∷ cs) = rw (each c, both g h k each cs) refl

pub all_changed-none : (f : Conn → Conn) (cs : List (ConnId × Conn)) → all_changed [] f cs ≡ cs
all_changed-none f [] = refl
all_changed-none f (c ∷ cs) = ap (λ (t : List (ConnId × Conn)). c ∷ t) (all_changed-none f cs)

module _ (f : Conn → Conn) (id : ConnId) (ids : List ConnId) where
  listed_twice : (c : ConnId × Conn) → (is_listed ids c.0 ≡ true → f (f c.1) ≡ f c.1) → ◌≡◌ {A = ConnId × Conn} (if is_listed ids c.0 then (c.0, f (f c.1)) else (c.0, f c.1)) (c.0, f c.1)
  listed_twice c same =
      ⊎_elim (λ is. rw is (ap (λ (conn : Conn). (c.0, conn)) (same is))) (λ none. rw none refl) (cases_Bool (is_listed ids c.0))

  -- one and then the others: a change that comes twice does no more than once
  pub all_changed-one : ((conn : Conn) → is_listed ids id ≡ true → f (f conn) ≡ f conn) → (cs : List (ConnId × Conn)) → all_changed ids f (changed id f cs) ≡ all_changed (id ∷ ids) f cs
  all_changed-one same cs =
      both _ _ _
      (λ c.
      ⊎_elim
      (λ is. rw is (listed_twice c (λ listed. same c.1 (subst (λ (x : ConnId). is_listed ids x ≡ true) (same_id-is c.0 id is) listed))))
      (λ other. rw other refl)
      (cases_Bool (same_id c.0 id)))
      cs

-- the others and one of them again
pub all_changed-again : (f : Conn → Conn) (ids : List ConnId) (id : ConnId) → ((conn : Conn) → f (f conn) ≡ f conn) → is_listed ids id ≡ true → (cs : List (ConnId × Conn)) → all_changed ids f (changed id f cs) ≡ all_changed ids f cs
all_changed-again f ids id twice listed cs =
    both _ _ _
    (λ c.
    ⊎_elim
    (λ is.
    let here : is_listed ids c.0 ≡ true = subst (λ (x : ConnId). is_listed ids x ≡ true) (sym (same_id-is c.0 id is)) listed in
    rw (is, here) (ap (λ (conn : Conn). (c.0, conn)) (twice c.1)))
    (λ other. rw other refl)
    (cases_Bool (same_id c.0 id)))
    cs

-- another connection is as it was
pub conn_at-changed : (f : Conn → Conn) (id other : ConnId) (cs : List (ConnId × Conn)) → same_id other id ≡ false → conn_at (changed id f cs) other ≡ conn_at cs other
conn_at-changed f id other [] different = refl
conn_at-changed f id other (c ∷ cs) different =
    ⊎_elim
    (λ is.
    let apart : same_id c.0 other ≡ false = subst (λ (x : ConnId). same_id x other ≡ false) (sym (same_id-is c.0 id is)) (same_id-other other id different) in
    rw (is, apart) (conn_at-changed f id other cs different))
    (λ no_one. rw no_one (ap (λ (t : Option Conn). if same_id c.0 other then Some c.1 else t) (conn_at-changed f id other cs different)))
    (cases_Bool (same_id c.0 id))

-- the lines that other connections give are as they were
pub batch_of-changed : (schema : Schema) (f : Conn → Conn) (id : ConnId) (ids : List ConnId) (cs : List (ConnId × Conn)) → is_listed ids id ≡ false → batch_of schema (changed id f cs) ids ≡ batch_of schema cs ids
batch_of-changed schema f id [] cs none = refl
batch_of-changed schema f id (first ∷ ids) cs none =
    let apart = or_parts (same_id id first) (is_listed ids id) none in
    rw (conn_at-changed f id first cs (same_id-other id first apart.0), batch_of-changed schema f id ids cs apart.1) refl

-- the rest of a table stays
abbrev pub table_of : Schema → Secrets → ℕ → ℕ → List (ConnId × Conn) → Table
table_of schema secrets added places conns =
    record { schema = schema; secrets = secrets; added = added; places = places; conns = conns }

of_fields : (a b : Table) → a.schema ≡ b.schema → a.secrets ≡ b.secrets → a.added ≡ b.added → a.places ≡ b.places → a.conns ≡ b.conns → a ≡ b
of_fields a b e f g p h =
    ap (λ (x : Schema). table_of x a.secrets a.added a.places a.conns) e
    ∙ ap (λ (x : Secrets). table_of b.schema x a.added a.places a.conns) f
    ∙ ap (λ (x : ℕ). table_of b.schema b.secrets x a.places a.conns) g
    ∙ ap (λ (x : ℕ). table_of b.schema b.secrets b.added x a.conns) p
    ∙ ap (table_of b.schema b.secrets b.added b.places) h

pub kept : (first now new : Table) (cs : List (ConnId × Conn)) → now ≡ record first { conns = now.conns } → new ≡ record now { conns = cs } → new ≡ record first { conns = new.conns }
kept first now new cs before after =
    of_fields _ _
    (ap (λ (t : Table). t.schema) after ∙ ap (λ (t : Table). t.schema) before)
    (ap (λ (t : Table). t.secrets) after ∙ ap (λ (t : Table). t.secrets) before)
    (ap (λ (t : Table). t.added) after ∙ ap (λ (t : Table). t.added) before)
    (ap (λ (t : Table). t.places) after ∙ ap (λ (t : Table). t.places) before)
    refl

-- the last step
pub ends : (first now : Table) (f : Conn → Conn) (rest : List ConnId) (all : List (ConnId × Conn)) → now ≡ record first { conns = now.conns } → rest ≡ [] → all_changed rest f now.conns ≡ all → now ≡ record first { conns = all }
ends first now f rest all same none is =
    same ∙ ap (table_of first.schema first.secrets first.added first.places) (sym (all_changed-none f now.conns) ∙ ap (λ (r : List ConnId). all_changed r f now.conns) (sym none) ∙ is)

-- a table of which connections alone changed
pub kept_is : (first now : Table) (all : List (ConnId × Conn)) → now ≡ record first { conns = now.conns } → now.conns ≡ all → now ≡ record first { conns = all }
kept_is first now all same is = same ∙ ap (table_of first.schema first.secrets first.added first.places) is

-- two steps, of which the first changes connections alone
pub kept_as : (first now new : Table) (cs all : List (ConnId × Conn)) → now ≡ record first { conns = now.conns } → new ≡ record now { conns = cs } → cs ≡ all → new ≡ record first { conns = all }
kept_as first now new cs all before after is =
    kept first now new cs before after
    ∙ ap (table_of first.schema first.secrets first.added first.places) (ap (λ (t : Table). t.conns) after ∙ is)

-- one step
step_on : (now new : Table) (f : Conn → Conn) (id : ConnId) (rest more : List ConnId) (all : List (ConnId × Conn)) → ((conn : Conn) → is_listed more id ≡ true → f (f conn) ≡ f conn) → rest ≡ id ∷ more → all_changed rest f now.conns ≡ all → new ≡ record now { conns = changed id f now.conns } → all_changed more f new.conns ≡ all
step_on now new f id rest more all twice rest_is is next =
    ap (λ (t : Table). all_changed more f t.conns) next
    ∙ all_changed-one f id more twice now.conns
    ∙ ap (λ (r : List ConnId). all_changed r f now.conns) (sym rest_is)
    ∙ is

-- the same over ids, and over what has an id
pub goes_on : (now new : Table) (f : Conn → Conn) (ids : List ConnId) (i : ℕ) (d : ConnId) (all : List (ConnId × Conn)) → new ≡ record now { conns = changed (get_or ids i d) f now.conns } → i < length ids → ((conn : Conn) → is_listed (drop (i + 1) ids) (get_or ids i d) ≡ true → f (f conn) ≡ f conn) → all_changed (drop i ids) f now.conns ≡ all → all_changed (drop (i + 1) ids) f new.conns ≡ all
goes_on now new f ids i d all next below twice is =
    let rest : drop i ids ≡ get_or ids i d ∷ drop (i + 1) ids = rw (add-one, drop-cons ids i d below) refl in
    step_on now new f (get_or ids i d) (drop i ids) (drop (i + 1) ids) all twice rest is next

pub goes_on_by : {X : Type 0} (key : X → ConnId) (now new : Table) (f : Conn → Conn) (xs : List X) (i : ℕ) (x : X) (all : List (ConnId × Conn)) → x ≡ get_or xs i x → new ≡ record now { conns = changed (key x) f now.conns } → i < length xs → ((conn : Conn) → f (f conn) ≡ f conn) → all_changed (map key (drop i xs)) f now.conns ≡ all → all_changed (map key (drop (i + 1) xs)) f new.conns ≡ all
goes_on_by key now new f xs i x all item next below twice is =
    let first : drop i xs ≡ get_or xs i x ∷ drop (i + 1) xs = rw (add-one, drop-cons xs i x below) refl in
    let rest : map key (drop i xs) ≡ key x ∷ map key (drop (i + 1) xs) = ap (map key) first ∙ ap (λ (y : _). key y ∷ map key (drop (i + 1) xs)) (sym item) in
    step_on now new f (key x) (map key (drop i xs)) (map key (drop (i + 1) xs)) all (λ conn listed. twice conn) rest is next

pub at_end : {X : Type 0} (xs : List X) (i : ℕ) → length xs ≤ i → drop i xs ≡ []
at_end xs i past = drop_all i xs past

-- changes that come twice
pub closed-twice : (reason : Reason) (conn : Conn) → closed reason (closed reason conn) ≡ closed reason conn
closed-twice reason (conns.Live l) = refl
closed-twice reason (conns.Closed first) = refl

pub place_used-twice : (conn : Conn) → place_used (place_used conn) ≡ place_used conn
place_used-twice (conns.Live l) = refl
place_used-twice (conns.Closed first) = refl

refused-at : (l : Live) (b : Bool) → has_lf l.held ≡ b → refused (refused (conns.Live l)) ≡ refused (conns.Live l)
refused-at l true is = rw is refl
refused-at l false is = rw (is, is) refl

pub refused-twice : (conn : Conn) → refused (refused conn) ≡ refused conn
refused-twice (conns.Closed first) = refl
refused-twice (conns.Live l) = refused-at l (has_lf l.held) refl

finished-at : (l : Live) (e : Option Reason) → ending l ≡ e → finished (finished (conns.Live l)) ≡ finished (conns.Live l)
finished-at l None is = rw (is, is) refl
finished-at l (Some reason) is = rw is refl

pub finished-twice : (conn : Conn) → finished (finished conn) ≡ finished conn
finished-twice (conns.Live l) = finished-at l (ending l) refl
finished-twice (conns.Closed first) = refl

-- what is closed anyway may change before
pub closes_anyway : (f : Conn → Conn) (ids : List ConnId) (id : ConnId) (old new : List (ConnId × Conn)) → ((conn : Conn) → f (f conn) ≡ f conn) → is_listed ids id ≡ true → changed id f new ≡ changed id f old → all_changed ids f new ≡ all_changed ids f old
closes_anyway f ids id old new twice listed same =
    sym (all_changed-again f ids id twice listed new) ∙ ap (all_changed ids f) same ∙ all_changed-again f ids id twice listed old
