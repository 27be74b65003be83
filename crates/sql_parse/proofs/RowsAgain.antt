-- Tables, conditions, orders and limits, as they are spelled, are read.
use Rattle.std.proofs.Common.{◌≡◌, ℕ, ◌^◌, ◌<◌, ◌≤◌, Bool, true, false, List, [], ◌∷◌, length, map, Option, Some, None, refl, ap, sym, subst, ◌∙◌, arith}
use Rattle.std.specs.Prelude.{if◌then◌else◌, codes, decimal, slice_get, IfSome, ⊤}
use Rattle.std.specs.List.{AllByRecursion}
use Rattle.row_types.specs.declared.columns.Column.{Column}
use Rattle.row_types.specs.declared.tables.TableDef.{TableDef}
use Rattle.row_types.specs.declared.tables.Schema.{Schema}
use Rattle.row_types.specs.Valid.{is_name, AreColumns, IsTable, IsValid}
use Rattle.sql_value.specs.declared.exprs.Expr.{Expr}
use Rattle.sql_value.specs.declared.kinds.ExprKind.{ExprKind}
use Rattle.sql_value.specs.declared.kinds.ExprKind.TheVariants.{Condition}
use Rattle.sql_value.specs.declared.orders.OrderKey.{OrderKey}
use Rattle.sql_value.specs.declared.orders.Limit.{Limit}
use Rattle.sql_value.specs.Kinds.{kind_of}
use Rattle.sql_parse.specs.declared.token_kinds.TokenKind.{TokenKind}
use Rattle.sql_parse.specs.declared.token_kinds.TokenKind.TheVariants as k
use Rattle.sql_parse.specs.Lex.{token, same_kind}
use Rattle.sql_parse.specs.Numbers.{number_of}
use Rattle.sql_parse.specs.Trees.{is_met, must}
use Rattle.sql_parse.specs.Names.{column_place, table_in, name}
use Rattle.sql_parse.specs.Input.{Input, Parser, ◌>>=◌, pure, lift, take_token, eat, expect, clause, kind, sees}
use Rattle.sql_parse.specs.Grammar.{at, expr, condition as met}
use Rattle.sql_parse.specs.Statements as s
use Rattle.sql_parse.specs.Spelling as t
use Rattle.sql_parse.specs.Spelling.{word, spell, quoted, commas, is_written, HasText}
use Rattle.sql_parse.proofs.Pieces.{Bare, IsToken, kind_of_word, takes_word, eats_word, eats_none, expects_word, sees_other}
use Rattle.sql_parse.proofs.Fixed.{dot_token, where_token, order_token, by_token, asc_token, desc_token, limit_token, offset_token}
use Rattle.sql_parse.proofs.Literals.{quoted_token, number_token, number_of_decimal}
use Rattle.sql_parse.proofs.Grouping.{bind, IsEnd, at_where, at_order, at_limit, at_end}
use Rattle.sql_parse.proofs.Fronts.{IsFront, front_word, front_both}
use Rattle.sql_parse.proofs.Leaves.{name_word}
use Rattle.sql_parse.proofs.Told.{IsTold, lifted}
use Rattle.sql_parse.proofs.Expressions.{readable}
use Rattle.sql_parse.proofs.Again.{column_again, table_again}
use Rattle.sql_parse.proofs.Series.{IsItem, series_read, series_front}

-- A number of 64 bits.
pub number_read : (n : ℕ) → n < 2 ^ 64 → (z : Input) → Bare z → s.number (t.number n z) ≡ Some (n, z)
unfolding s.number
number_read n lt z bare =
    let its = number_token n lt in
    ap (λ x. s.number_by x (t.number n z)) (kind_of_word k.Number (decimal n) its z)
    ∙ bind (λ digits. lift (number_of digits)) {o = take_token (t.number n z)} (takes_word k.Number (decimal n) its z bare)
    (lifted (number_of (decimal n)) n z (number_of_decimal n lt))

-- A table by its two names.
pub table_read : (schema : Schema) (d : TableDef) (n : ℕ) → IsValid schema → IsTable d → slice_get schema.tables n ≡ Some d → (z : Input) → Bare z → s.table schema (t.table_name (Some d) z) ≡ Some (n, z)
unfolding s.table
table_read schema d n valid is at z bare =
    let y = quoted d.name z in
    let bare_y : Bare y = (quoted_token d.name is.name).bare z in
    bind (λ first. eat k.Dot >>= s.table_by schema first) {o = name (quoted d.db (spell "." y))} (name_word d.db is.db (spell "." y) (dot_token.bare y))
    (bind (s.table_by schema d.db) {o = eat k.Dot (spell "." y)} (eats_word k.Dot (codes ".") dot_token y bare_y)
    (bind (λ second. pure (table_in schema d.db second)) {o = name y} (name_word d.name is.name z bare)
    (ap (λ x. Some (x, z)) (table_again schema d n valid at))))

-- ---- what stands behind

-- What comes next, and that it ends an expression and a list.
pub record IsRest (i : Input) (its : TokenKind) : Type 0 where
  pub is : kind i ≡ its
  pub bare : Bare i
  pub ends : IsEnd its
  pub comma : same_kind its k.Comma ≡ false

pub rest_ends : (i : Input) (its : TokenKind) → IsRest i its → IsEnd (kind i)
rest_ends i its rest = subst IsEnd (sym rest.is) rest.ends

pub not_next : (i : Input) (its other : TokenKind) → IsRest i its → same_kind its other ≡ false → sees other i ≡ false
unfolding sees
not_next i its other rest none = ap (λ x. same_kind x other) rest.is ∙ none

pub rest_word : (its : TokenKind) (p : List ℕ) → IsToken its p → IsEnd its → same_kind its k.Comma ≡ false → (z : Input) → IsRest (word p z) its
rest_word its p token ends comma z = record { is = kind_of_word its p token z; bare = token.bare z; ends = ends; comma = comma }

pub rest_end : IsRest [] k.End
unfolding kind token same_kind
rest_end = record { is = refl; bare = refl; ends = at_end; comma = refl }

-- The first token of a LIMIT, or the end.
abbrev pub cut_kind : Option Limit → TokenKind
cut_kind None = k.End
cut_kind (Some l) = k.Limit

abbrev pub order_kind : List OrderKey → TokenKind → TokenKind
order_kind [] its = its
order_kind (key ∷ keys) its = k.Order

abbrev pub filter_kind : Option Expr → TokenKind → TokenKind
filter_kind None its = its
filter_kind (Some e) its = k.Where

pub page_rest : (l : Option Limit) → IsRest (t.page l []) (cut_kind l)
unfolding same_kind
page_rest None = rest_end
page_rest (Some l) = rest_word k.Limit (codes "LIMIT") limit_token at_limit refl _

pub count_rest : (l : Option Limit) → IsRest (t.count l []) (cut_kind l)
unfolding same_kind
count_rest None = rest_end
count_rest (Some l) = rest_word k.Limit (codes "LIMIT") limit_token at_limit refl _

pub order_rest : (columns : List Column) (keys : List OrderKey) (z : Input) (its : TokenKind) → IsRest z its → IsRest (t.order columns keys z) (order_kind keys its)
unfolding same_kind
order_rest columns [] z its rest = rest
order_rest columns (key ∷ keys) z its rest = rest_word k.Order (codes "ORDER") order_token at_order refl _

pub filter_rest : (columns : List Column) (condition : Option Expr) (z : Input) (its : TokenKind) → IsRest z its → IsRest (t.filter columns condition z) (filter_kind condition its)
unfolding same_kind
filter_rest columns None z its rest = rest
filter_rest columns (Some e) z its rest = rest_word k.Where (codes "WHERE") where_token at_where refl _

pub cut_no_order : (l : Option Limit) → same_kind (cut_kind l) k.Order ≡ false
unfolding same_kind
cut_no_order None = refl
cut_no_order (Some l) = refl

pub order_no_where : (keys : List OrderKey) (l : Option Limit) → same_kind (order_kind keys (cut_kind l)) k.Where ≡ false
unfolding same_kind
order_no_where [] None = refl
order_no_where [] (Some l) = refl
order_no_where (key ∷ keys) l = refl

-- ---- clauses

pub absent : {A : Type 0} (its : TokenKind) (p : Parser A) (i : Input) → sees its i ≡ false → clause its p i ≡ Some (None, i)
absent its p i none = bind (λ found. if found then (p >>= λ x. pure (Some x)) else pure None) {o = eat its i} (eats_none its i none) refl

pub present : {A : Type 0} (its : TokenKind) (w : List ℕ) → IsToken its w → (p : Parser A) (y z : Input) (x : A) → Bare y → p y ≡ Some (x, z) → clause its p (word w y) ≡ Some (Some x, z)
present its w token p y z x bare read =
    bind (λ found. if found then (p >>= λ x. pure (Some x)) else pure None) {o = eat its (word w y)} (eats_word its w token y bare)
    (bind (λ x. pure (Some x)) {o = p y} read refl)

paged_read : (l : Limit) → t.IsPage l → s.paged (t.number l.count (spell "OFFSET" (t.number l.offset []))) ≡ Some (l, [])
unfolding s.paged s.offset same_kind
paged_read l is =
    let last = t.number l.offset [] in
    let i = spell "OFFSET" last in
    let bare_last : Bare last = (number_token l.offset is.0).bare [] in
    bind (λ first. eat k.Comma >>= s.paged_by first) {o = s.number (t.number l.count i)} (number_read l.count is.1 i (offset_token.bare last))
    (bind (s.paged_by l.count) {o = eat k.Comma i} (eats_none k.Comma i (sees_other k.Offset k.Comma (codes "OFFSET") offset_token refl last))
    (bind (λ n. pure (record { offset = n; count = l.count })) {o = s.offset i}
    (bind s.offset_by {o = eat k.Offset i} (eats_word k.Offset (codes "OFFSET") offset_token last bare_last) (number_read l.offset is.0 [] rest_end.bare))
    refl))

pub page_read : (l : Option Limit) → IfSome l t.IsPage → s.page (t.page l []) ≡ Some (l, [])
unfolding s.page same_kind
page_read None is = absent k.Limit s.paged [] (not_next [] k.End k.Limit rest_end refl)
page_read (Some l) is =
    let y = t.number l.count (spell "OFFSET" (t.number l.offset [])) in
    present k.Limit (codes "LIMIT") limit_token s.paged y [] l ((number_token l.count is.1).bare (spell "OFFSET" (t.number l.offset []))) (paged_read l is)

counted_read : (l : Limit) → t.IsCount l → s.counted (t.number l.count []) ≡ Some (l, [])
unfolding s.counted
counted_read l is =
    bind (λ n. pure (record { offset = 0; count = n })) {o = s.number (t.number l.count [])} (number_read l.count is.1 [] rest_end.bare)
    (ap (λ n. Some (record { offset = n; count = l.count }, [])) (sym is.0))

pub count_read : (l : Option Limit) → IfSome l t.IsCount → s.count (t.count l []) ≡ Some (l, [])
unfolding s.count same_kind
count_read None is = absent k.Limit s.counted [] (not_next [] k.End k.Limit rest_end refl)
count_read (Some l) is =
    present k.Limit (codes "LIMIT") limit_token s.counted (t.number l.count []) [] l ((number_token l.count is.1).bare []) (counted_read l is)

module _ (columns : List Column) (are : AreColumns columns) where
  is_named : (place : ℕ) → place < length columns → is_name (t.name_in (slice_get columns place)) ≡ true
  is_named place lt = (column_again columns are place lt).0

  found : (place : ℕ) → place < length columns → column_place columns (t.name_in (slice_get columns place)) ≡ place
  found place lt = (column_again columns are place lt).1

  pub told : (named : List Column) → length named ≤ length columns → (e : Expr) (g : ExprKind) → kind_of named e ≡ Some g → is_written e ≡ true → IsTold columns (t.expression columns e) e (t.depth e) (t.nesting e) g
  told named some e g kind written = readable named columns some is_named found e g kind written

  -- A column by its name.
  pub column_front : (place : ℕ) → place < length columns → IsFront (t.column columns place)
  column_front place lt = front_word k.Quoted _ (quoted_token (t.name_in (slice_get columns place)) (is_named place lt)) (λ schema more i. refl)

  pub column_read : (place : ℕ) → place < length columns → (z : Input) → Bare z → s.column columns (t.column columns place z) ≡ Some (place, z)
  unfolding s.column
  column_read place lt z bare =
      let n = t.name_in (slice_get columns place) in
      bind (λ called. pure (column_place columns called)) {o = name (quoted n z)} (name_word n (is_named place lt) z bare)
      (ap (λ x. Some (x, z)) (found place lt))

  -- ---- WHERE

  condition_read : (e : Expr) → kind_of columns e ≡ Some Condition → HasText 100 e → (z : Input) → Bare z → IsEnd (kind z) → s.condition columns (t.expression columns e z) ≡ Some (e, z)
  unfolding s.condition expr at
  condition_read e kind has z bare ends =
      let it = told columns (omega arith) e Condition kind has.written in
      bind (λ read. lift (must is_met read) >>= λ met. pure met.expr) {o = met columns (expr columns 100) (t.expression columns e z)} (it.as_condition has.deep 100 has.nested z bare ends) refl

  pub filter_read : (condition : Option Expr) → IfSome condition (λ e. kind_of columns e ≡ Some Condition) → IfSome condition (HasText 100) → (z : Input) (its : TokenKind) → IsRest z its → same_kind its k.Where ≡ false → s.filter columns (t.filter columns condition z) ≡ Some (condition, z)
  unfolding s.filter
  filter_read None fits has z its rest none = absent k.Where (s.condition columns) z (not_next z its k.Where rest none)
  filter_read (Some e) fits has z its rest none =
      let it = told columns (omega arith) e Condition fits has.written in
      present k.Where (codes "WHERE") where_token (s.condition columns) (t.expression columns e z) z e (it.starts z) (condition_read e fits has z rest.bare (rest_ends z its rest))

  -- ---- ORDER BY

  direction_front : (down : Bool) → IsFront (t.direction down)
  direction_front true = front_word k.Desc (codes "DESC") desc_token (λ schema more i. refl)
  direction_front false = front_word k.Asc (codes "ASC") asc_token (λ schema more i. refl)

  key_of : ℕ → Bool → OrderKey
  key_of place down = record { column = place; down = down }

  -- Behind a name, by whether DESC was there.
  keyed : ℕ → Bool → Parser OrderKey
  keyed place down = s.upwards down >>= λ said. pure (key_of place down)

  direction_read : (place : ℕ) (down : Bool) (z : Input) → Bare z → (eat k.Desc >>= keyed place) (t.direction down z) ≡ Some (key_of place down, z)
  unfolding same_kind keyed
  direction_read place true z bare =
      bind (keyed place) {o = eat k.Desc (spell "DESC" z)} (eats_word k.Desc (codes "DESC") desc_token z bare) refl
  direction_read place false z bare =
      bind (keyed place) {o = eat k.Desc (spell "ASC" z)} (eats_none k.Desc (spell "ASC" z) (sees_other k.Asc k.Desc (codes "ASC") asc_token refl z))
      (bind (λ said. pure (key_of place false)) {o = eat k.Asc (spell "ASC" z)} (eats_word k.Asc (codes "ASC") asc_token z bare) refl)

  key_item : (key : OrderKey) → key.column < length columns → IsItem (s.order_key columns) (t.order_key columns) (λ _. ⊤) tt key
  unfolding s.order_key keyed key_of
  key_item key lt = record {
    front = front_both (t.column columns key.column) (t.direction key.down) (column_front key.column lt) (direction_front key.down);
    read = λ z bare _.
        let n = t.name_in (slice_get columns key.column) in
        let y = t.direction key.down z in
        bind (λ called. eat k.Desc >>= keyed (column_place columns called)) {o = name (quoted n y)} (name_word n (is_named key.column lt) y ((direction_front key.down).bare z bare))
        (ap (λ x. (eat k.Desc >>= keyed x) y) (found key.column lt)
        ∙ direction_read key.column key.down z bare);
  }

  key_items : (keys : List OrderKey) → AllByRecursion (λ (key : OrderKey). key.column < length columns) keys → AllByRecursion (IsItem (s.order_key columns) (t.order_key columns) (λ _. ⊤) tt) keys
  key_items [] each = tt
  key_items (key ∷ keys) each = (key_item key each.0, key_items keys each.1)

  pub order_read : (keys : List OrderKey) → AllByRecursion (λ (key : OrderKey). key.column < length columns) keys → (z : Input) (its : TokenKind) → IsRest z its → same_kind its k.Order ≡ false → s.order columns (t.order columns keys z) ≡ Some (keys, z)
  unfolding s.order
  order_read [] each z its rest none = bind (s.order_by columns) {o = eat k.Order z} (eats_none k.Order z (not_next z its k.Order rest none)) refl
  order_read (key ∷ keys) each z its rest none =
      let y = commas (map (t.order_key columns) (key ∷ keys)) z in
      let items = key_items (key ∷ keys) each in
      let bare_y : Bare y = (series_front (s.order_key columns) (t.order_key columns) (λ _. ⊤) tt key keys items).bare z rest.bare in
      bind (s.order_by columns) {o = eat k.Order (spell "ORDER" (spell "BY" y))} (eats_word k.Order (codes "ORDER") order_token (spell "BY" y) (by_token.bare y))
      (bind (λ _. s.order_keys columns) {o = expect k.By (spell "BY" y)} (expects_word k.By (codes "BY") by_token y bare_y)
      (series_read (s.order_key columns) (t.order_key columns) (λ _. ⊤) tt key keys items z rest.bare tt (not_next z its k.Comma rest rest.comma)))
