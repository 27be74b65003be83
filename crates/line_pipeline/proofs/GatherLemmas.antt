-- What the listed connections give, and those of them that ask for something.
use Rattle.std.proofs.Common.{◌≡◌, ℕ, zero, suc, ◌+◌, ◌<◌, Bool, true, false, ◌&&◌, ◌||◌, List, [], ◌∷◌, ◌++◌, map, length, take, drop, get_or, Option, Some, None, refl, sym, ap, ◌∙◌, ⊎_elim, arith, add-one, drop-cons, append_assoc, Result, Ok, Err, OnOk}
use Rattle.std.specs.Prelude.{if◌then◌else◌, nat_lt}
use Rattle.std.specs.List.{filter}
use Rattle.std.proofs.lemmas.Bool.{cases_Bool}
use Rattle.hs_line.specs.Lines.{has_lf}
use Rattle.hs_line.proofs.WholeLines.{whole-none}
use Rattle.request_types.specs.declared.connections.ConnId.{ConnId}
use Rattle.row_types.specs.declared.tables.Schema.{Schema}
use Rattle.request_types.specs.declared.batches.Item.{Item}
use Rattle.line_pipeline.specs.declared.conns.Conn.{Conn}
use Rattle.line_pipeline.specs.declared.conns.Conn.TheVariants as conns
use Rattle.line_pipeline.specs.declared.reasons.Reason.TheVariants as reasons
use Rattle.line_pipeline.specs.Live.{Live, is_clogged, taken_lines, behind, kinds_of, left_by, item_of}
use Rattle.line_pipeline.specs.Conn.{asks, closed, refused, took, items_of}
use Rattle.request_types.specs.Ids.{same_id, is_listed, are_once}
use Rattle.line_pipeline.specs.Table.{Table, conn_at, changed, all_changed}
use Rattle.line_pipeline.specs.Gathered.{items_at, batch_of, is_asking, AreFound}
use Rattle.request_types.proofs.Ids.{listed-filter, same_id-refl, once-head, once-tail}
use Rattle.line_pipeline.proofs.TableLemmas.{batch_of-changed}

-- without a line feed nothing is taken
nothing_either : (b : Bool) → ◌≡◌ {A = List (List ℕ)} (if b then [] else take 256 []) []
nothing_either true = refl
nothing_either false = refl

lines-none : (l : Live) → has_lf l.held ≡ false → taken_lines l ≡ []
lines-none l none =
    ap (λ (whole : List (List ℕ)). if is_clogged l then [] else take 256 whole) (whole-none 65536 l.held none) ∙ nothing_either (is_clogged l)

abbrev took_by : Schema → Live → List (List ℕ) → Live
took_by schema l lines = record l {
  held = behind lines l.held;
  handles = (left_by schema l.port l.handles l.auth lines).0;
  auth = (left_by schema l.port l.handles l.auth lines).1;
  has_place = l.has_place || nat_lt 0 (length lines);
}

or_none : (b : Bool) → (b || false) ≡ b
or_none true = refl
or_none false = refl

pub took-none : (schema : Schema) (conn : Conn) → asks conn ≡ false → took schema conn ≡ conn
took-none schema (conns.Closed reason) none = refl
took-none schema (conns.Live l) none =
    ap (λ (lines : List (List ℕ)). conns.Live (took_by schema l lines)) (lines-none l none)
    ∙ ap (λ (b : Bool). conns.Live (record l { has_place = b })) (or_none l.has_place)

pub items-none : (schema : Schema) (id : ConnId) (conn : Conn) → asks conn ≡ false → items_of schema id conn ≡ []
items-none schema id (conns.Closed reason) none = refl
items-none schema id (conns.Live l) none =
    ap (λ (lines : List (List ℕ)). map (item_of id) (kinds_of schema l.port l.handles l.auth lines)) (lines-none l none)

-- whether it asks, and what it gives, is that of the connection that is found
asking_is : (cs : List (ConnId × Conn)) (id : ConnId) (conn : Conn) → conn_at cs id ≡ Some conn → is_asking cs id ≡ asks conn
asking_is cs id conn is = rw is refl

pub items_at-found : (schema : Schema) (cs : List (ConnId × Conn)) (id : ConnId) (conn : Conn) → conn_at cs id ≡ Some conn → items_at schema cs id ≡ items_of schema id conn
items_at-found schema cs id conn is = rw is refl

pub items_at-missing : (schema : Schema) (cs : List (ConnId × Conn)) (id : ConnId) → conn_at cs id ≡ None → items_at schema cs id ≡ []
items_at-missing schema cs id is = rw is refl

items_at-by : (schema : Schema) (cs : List (ConnId × Conn)) (id : ConnId) (held : Option Conn) → conn_at cs id ≡ held → is_asking cs id ≡ false → items_at schema cs id ≡ []
items_at-by schema cs id None is none = items_at-missing schema cs id is
items_at-by schema cs id (Some conn) is none =
    items_at-found schema cs id conn is ∙ items-none schema id conn (sym (asking_is cs id conn is) ∙ none)

-- those that ask for nothing give nothing
pub batch_of-asking : (schema : Schema) (cs : List (ConnId × Conn)) (ids : List ConnId) → batch_of schema cs (filter (is_asking cs) ids) ≡ batch_of schema cs ids
batch_of-asking schema cs [] = refl
batch_of-asking schema cs (id ∷ ids) =
    ⊎_elim
    (λ asks_it. rw asks_it (ap (λ (items : List Item). items_at schema cs id ++ items) (batch_of-asking schema cs ids)))
    (λ none. let nothing : items_at schema cs id ≡ [] = items_at-by schema cs id (conn_at cs id) refl none in rw (none, nothing) (batch_of-asking schema cs ids))
    (cases_Bool (is_asking cs id))

-- a change of those that ask is a change of all, if it does nothing to the others
pick : (c : ConnId × Conn) (x y : Conn) (a l t : Bool) → a ≡ (l && t) → (t ≡ true → x ≡ y) → (t ≡ false → y ≡ c.1) → ◌≡◌ {A = ConnId × Conn} (if a then (c.0, x) else c) (if l then (c.0, y) else c)
pick c x y a false t is same none = rw is refl
pick c x y a true true is same none = rw is (ap (λ (conn : Conn). (c.0, conn)) (same refl))
pick c x y a true false is same none = rw is (ap (λ (conn : Conn). (c.0, conn)) (sym (none refl)))

module _ (f g : Conn → Conn) (same : (conn : Conn) → asks conn ≡ true → f conn ≡ g conn) (none : (conn : Conn) → asks conn ≡ false → g conn ≡ conn) (all : List (ConnId × Conn)) (ids : List ConnId) where
  pub all_changed-asking : (cs : List (ConnId × Conn)) → AreFound all cs → all_changed (filter (is_asking all) ids) f cs ≡ all_changed ids g cs
  all_changed-asking [] found = refl
  all_changed-asking (c ∷ cs) found =
      let is : is_asking all c.0 ≡ asks c.1 = asking_is all c.0 c.1 found.0 in
      let first : ◌≡◌ {A = ConnId × Conn} (if is_listed (filter (is_asking all) ids) c.0 then (c.0, f c.1) else c) (if is_listed ids c.0 then (c.0, g c.1) else c) =
      pick c (f c.1) (g c.1) (is_listed (filter (is_asking all) ids) c.0) (is_listed ids c.0) (is_asking all c.0) (listed-filter (is_asking all) ids c.0) (λ t. same c.1 (sym is ∙ t)) (λ t. none c.1 (sym is ∙ t)) in
      rw (first, all_changed-asking cs found.1) refl

pub refused-asking : (conn : Conn) → asks conn ≡ true → closed reasons.BatchMemory conn ≡ refused conn
refused-asking conn is = rw is refl

pub refused-none : (conn : Conn) → asks conn ≡ false → refused conn ≡ conn
refused-none conn is = rw is refl

-- one more connection gives its lines
pub batch-on : (schema : Schema) (f : Conn → Conn) (cs : List (ConnId × Conn)) (ids : List ConnId) (i : ℕ) (d : ConnId) (items all : List Item) → i < length ids → is_listed (drop (i + 1) ids) (get_or ids i d) ≡ false → items ++ batch_of schema cs (drop i ids) ≡ all → (items ++ items_at schema cs (get_or ids i d)) ++ batch_of schema (changed (get_or ids i d) f cs) (drop (i + 1) ids) ≡ all
batch-on schema f cs ids i d items all below apart is =
    let id = get_or ids i d in
    let next : drop i ids ≡ id ∷ drop (i + 1) ids = rw (add-one, drop-cons ids i d below) refl in
    rw (batch_of-changed schema f id (drop (i + 1) ids) cs apart)
    (append_assoc items (items_at schema cs id) (batch_of schema cs (drop (i + 1) ids))
    ∙ ap (λ (r : List ConnId). items ++ batch_of schema cs r) (sym next)
    ∙ is)

pub listed-at : (ids : List ConnId) (i : ℕ) (d : ConnId) → i < length ids → is_listed ids (get_or ids i d) ≡ true
listed-at [] i d below = absurd (omega arith)
listed-at (id ∷ ids) zero d below = rw (same_id-refl id) refl
listed-at (id ∷ ids) (suc i) d below =
    ⊎_elim (λ is. rw is refl) (λ other. rw other (listed-at ids i d (omega arith))) (cases_Bool (same_id (get_or ids i d) id))

-- one more id, or not
pub filter-on : (test : ConnId → Bool) (ids : List ConnId) (i : ℕ) (d : ConnId) (found all new : List ConnId) → i < length ids → found ++ filter test (drop i ids) ≡ all → new ≡ (if test (get_or ids i d) then found ++ get_or ids i d ∷ [] else found) → new ++ filter test (drop (i + 1) ids) ≡ all
filter-on test ids i d found all new below is next =
    let id = get_or ids i d in
    let rest : drop i ids ≡ id ∷ drop (i + 1) ids = rw (add-one, drop-cons ids i d below) refl in
    ⊎_elim
    (λ passes.
    let more : filter test (drop i ids) ≡ id ∷ filter test (drop (i + 1) ids) = ap (filter test) rest ∙ rw passes refl in
    let new_is : new ≡ found ++ id ∷ [] = next ∙ rw passes refl in
    rw new_is (append_assoc found (id ∷ []) (filter test (drop (i + 1) ids)) ∙ ap (λ (t : List ConnId). found ++ t) (sym more) ∙ is))
    (λ fails.
    let more : filter test (drop i ids) ≡ filter test (drop (i + 1) ids) = ap (filter test) rest ∙ rw fails refl in
    let new_is : new ≡ found = next ∙ rw fails refl in
    rw new_is (ap (λ (t : List ConnId). found ++ t) (sym more) ∙ is))
    (cases_Bool (test id))

-- what holds after an Ok holds as well of what follows from it
pub on_ok : {X E P Q : Type 0} (r : Result X E) → (P → Q) → OnOk r P → OnOk r Q
on_ok (Ok x) follows is = follows is
on_ok (Err e) follows is = tt

-- of ids of which none is twice, the next is not among those behind it
pub once-on : (ids : List ConnId) (i : ℕ) (d : ConnId) → i < length ids → are_once (drop i ids) ≡ true → (is_listed (drop (i + 1) ids) (get_or ids i d) ≡ false) × (are_once (drop (i + 1) ids) ≡ true)
once-on ids i d below once =
    let next : drop i ids ≡ get_or ids i d ∷ drop (i + 1) ids = rw (add-one, drop-cons ids i d below) refl in
    let all : are_once (get_or ids i d ∷ drop (i + 1) ids) ≡ true = sym (ap are_once next) ∙ once in
    (once-head (get_or ids i d) (drop (i + 1) ids) all, once-tail (get_or ids i d) (drop (i + 1) ids) all)

-- one connection gave its lines
pub batch-step : (now new : Table) (ids : List ConnId) (i : ℕ) (d : ConnId) (items more all : List Item) → new ≡ record now { conns = changed (get_or ids i d) (took now.schema) now.conns } → more ≡ items ++ items_at now.schema now.conns (get_or ids i d) → i < length ids → is_listed (drop (i + 1) ids) (get_or ids i d) ≡ false → items ++ batch_of now.schema now.conns (drop i ids) ≡ all → more ++ batch_of new.schema new.conns (drop (i + 1) ids) ≡ all
batch-step now new ids i d items more all next gave below apart is =
    ap (λ (t : Table). more ++ batch_of t.schema t.conns (drop (i + 1) ids)) next
    ∙ ap (λ (its : List Item). its ++ batch_of now.schema (changed (get_or ids i d) (took now.schema) now.conns) (drop (i + 1) ids)) gave
    ∙ batch-on now.schema (took now.schema) now.conns ids i d items all below apart is
