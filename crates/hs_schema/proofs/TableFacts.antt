-- A table that was read is a valid one, as to its indexes and as a whole.
use Rattle.std.proofs.Common.{◌≡◌, ◌∙◌, ℕ, zero, suc, ◌+◌, ◌<◌, ◌≤◌, Bool, true, false, cond, not, ◌&&◌, leb, ltb, List, [], ◌∷◌, ◌++◌, length, eqb, Ok, refl, sym, subst, arith, codes}
use Rattle.std.specs.Prelude.{slice_get, nat_eq, nat_lt}
use Rattle.std.specs.Str.{bytes_eq}
use Rattle.std.specs.List.{list_any, list_all, AllByRecursion}
use Rattle.std.proofs.lemmas.Bool.{leb-false, ltb-false}
use Rattle.std.proofs.lemmas.List.{length-append, length-map}
use Rattle.hs_token.specs.declared.tokens.Token.{Token}
use Rattle.row_types.specs.declared.columns.Column.{Column}
use Rattle.row_types.specs.declared.indexes.IndexKind.{IndexKind}
use Rattle.row_types.specs.declared.indexes.IndexDef.{IndexDef}
use Rattle.row_types.specs.declared.tables.TableDef.{TableDef}
use Rattle.row_types.specs.Counted.{is_led}
use Rattle.row_types.specs.Valid.{is_name, are_distinct, same_index, same_table, is_primary, primary_name, may_be_null, most_row_size, IsIndex, IsTable, IsValid}
use Rattle.hs_schema.specs.declared.faults.SchemaRule.TheVariants.{BadKind, TooMany}
use Rattle.hs_schema.specs.Reading.{◌>>=◌, broken, is_word, text_at, name_at, known, names_from, place_of, parts_of, index_kind_of, suits, fine_parts, index_place, has_index, index_name_at, index_kind_at, index_at, indexes_at, columns_of, start_at, has_table, table_name_at, whole_table, table_at}
use Rattle.hs_schema.proofs.Cases.{bind_ok, guard_ok, need_ok, ok_same, all_push, distinct_push}
use Rattle.hs_schema.proofs.ReadFacts.{name_ok, columns_of_ok}

not_false : (b : Bool) → not b ≡ false → b ≡ true
not_false true e = refl
not_false false e = absurd cc

names_some : (name text : List ℕ) → 1 ≤ length (names_from name text)
names_some name [] = omega arith
names_some name (b ∷ bs) = go (eqb b 44) (names_some [] bs) (names_some (name ++ b ∷ []) bs) where
  go : (c : Bool) → 1 ≤ length (names_from [] bs) → 1 ≤ length (names_from (name ++ b ∷ []) bs) → 1 ≤ length (cond c (name ∷ names_from [] bs) (names_from (name ++ b ∷ []) bs))
  go true x y = omega arith
  go false x y = y

pub record AreParts (columns : List Column) (kind : IndexKind) (parts : List ℕ) : Type 0 where
  pub most : length parts ≤ 8
  pub within : list_all (λ place. nat_lt place (length columns)) parts ≡ true
  pub once : are_distinct nat_eq parts ≡ true
  pub never_null : is_primary kind && list_any (may_be_null columns) parts ≡ false

parts_ok : (columns : List Column) (kind : IndexKind) (place : ℕ) (parts fine : List ℕ) → fine_parts columns kind place parts ≡ Ok fine → AreParts columns kind fine × (parts ≡ fine)
unfolding fine_parts
parts_ok columns kind place parts fine e =
    let a = guard_ok (is_primary kind && list_any (may_be_null columns) parts) _ _ fine e in
    let b = guard_ok (not (list_all (λ part. nat_lt part (length columns)) parts)) _ _ fine a.1 in
    let c = guard_ok (not (are_distinct nat_eq parts)) _ _ fine b.1 in
    let d = guard_ok (nat_lt 8 (length parts)) _ _ fine c.1 in
    let is = ok_same parts fine d.1 in (
      subst (AreParts columns kind) is (record {
        most = ltb-false 8 (length parts) d.0;
        within = not_false (list_all (λ part. nat_lt part (length columns)) parts) b.0;
        once = not_false (are_distinct nat_eq parts) c.0;
        never_null = a.0;
      }),
      is,
    )

index_name_ok : (before : List IndexDef) (line : List Token) (place : ℕ) (name : List ℕ) → index_name_at before line place ≡ Ok name → (is_name name ≡ true) × (has_index before name ≡ false)
unfolding index_name_at
index_name_ok before line place name e =
    let t = bind_ok (name_at line place) _ name e in
    let g = guard_ok (has_index before t.0) _ (Ok t.0) name t.2 in
    let is = ok_same t.0 name g.1 in
    (name_ok line place name (t.1 ∙ g.1), subst (λ n. has_index before n ≡ false) is g.0)

suits_ok : (kind : IndexKind) (name : List ℕ) → suits kind name ≡ true → is_primary kind ≡ bytes_eq name primary_name
suits_ok kind name e = go (is_primary kind) (bytes_eq name primary_name) e where
  go : (p n : Bool) → cond p n (not n) ≡ true → p ≡ n
  go true true e = refl
  go true false e = absurd cc
  go false true e = absurd cc
  go false false e = refl

index_kind_ok : (name : List ℕ) (line : List Token) (place : ℕ) (kind : IndexKind) → index_kind_at name line place ≡ Ok kind → is_primary kind ≡ bytes_eq name primary_name
unfolding index_kind_at
index_kind_ok name line place kind e =
    let t = bind_ok (text_at line place) _ kind e in
    let k = bind_ok (known place (index_kind_of t.0)) _ kind t.2 in
    let g = need_ok (suits k.0 name) _ (Ok k.0) kind k.2 in
    subst (λ k. is_primary k ≡ bytes_eq name primary_name) (ok_same k.0 kind g.1) (suits_ok k.0 name g.0)

pub index_ok : (columns : List Column) (before : List IndexDef) (line : List Token) (i : IndexDef) → index_at columns before line ≡ Ok i → IsIndex columns i × (has_index before i.name ≡ false)
unfolding index_at
index_ok columns before line i e =
    let place = index_place columns before in
    let n = bind_ok (index_name_at before line (place + 1)) _ i e in
    let k = bind_ok (index_kind_at n.0 line (place + 2)) _ i n.2 in
    let t = bind_ok (text_at line (place + 3)) _ i k.2 in
    let p = bind_ok (fine_parts columns k.0 (place + 3) (parts_of columns t.0)) _ i t.2 in
    let name = index_name_ok before line (place + 1) n.0 n.1 in
    let parts = parts_ok columns k.0 (place + 3) (parts_of columns t.0) p.0 p.1 in
    let some : 1 ≤ length (parts_of columns t.0) = omega (arith, names_some [] t.0, length-map (names_from [] t.0) (place_of columns)) in
    subst (λ i. IsIndex columns i × (has_index before i.name ≡ false)) (ok_same _ i p.2) (
      record {
        name = name.0;
        kind = index_kind_ok n.0 line (place + 2) k.0 k.1;
        some_part = subst (λ ps. 1 ≤ length ps) parts.1 some;
        most_parts = parts.0.most;
        within = parts.0.within;
        once = parts.0.once;
        never_null = parts.0.never_null;
      },
      name.1,
    )

-- indexes, of which there may be more
pub record IndexesSoFar (columns : List Column) (is : List IndexDef) : Type 0 where
  pub each : AllByRecursion (IsIndex columns) is
  pub distinct : are_distinct same_index is ≡ true
  pub most : length is ≤ 16

index_pushed : (columns : List Column) (before : List IndexDef) (i : IndexDef) → IndexesSoFar columns before → length before < 16 → IsIndex columns i × (has_index before i.name ≡ false) → IndexesSoFar columns (before ++ i ∷ [])
index_pushed columns before i are lt is = record {
  each = all_push (IsIndex columns) before i are.each is.0;
  distinct = distinct_push same_index before i are.distinct is.1;
  most = omega (arith, length-append before (i ∷ []));
}

pub indexes_ok : (room : ℕ) (columns : List Column) (before : List IndexDef) (line : List Token) (is : List IndexDef) → length before + room ≤ 16 → IndexesSoFar columns before → indexes_at room columns before line ≡ Ok is → IndexesSoFar columns is
unfolding indexes_at
indexes_ok zero columns before line is le are e = go (leb (length line) (index_place columns before)) (is_word (codes "i") (slice_get line (index_place columns before))) e where
  go : (a b : Bool) → (cond a (Ok false) (cond b (Ok true) (broken BadKind (index_place columns before))) >>= λ more. cond more (broken TooMany (index_place columns before)) (Ok before)) ≡ Ok is → IndexesSoFar columns is
  go true b e = subst (IndexesSoFar columns) (ok_same before is e) are
  go false true e = absurd cc
  go false false e = absurd cc
indexes_ok (suc room) columns before line is le are e = go (leb (length line) (index_place columns before)) (is_word (codes "i") (slice_get line (index_place columns before))) e (λ i read more.
    indexes_ok room columns (before ++ i ∷ []) line is (omega (arith, length-append before (i ∷ []))) (index_pushed columns before i are (omega arith) (index_ok columns before line i read)) more) where
      go : (a b : Bool) → (cond a (Ok false) (cond b (Ok true) (broken BadKind (index_place columns before))) >>= λ more. cond more (index_at columns before line >>= λ i. indexes_at room columns (before ++ i ∷ []) line) (Ok before)) ≡ Ok is → ((i : IndexDef) → index_at columns before line ≡ Ok i → indexes_at room columns (before ++ i ∷ []) line ≡ Ok is → IndexesSoFar columns is) → IndexesSoFar columns is
      go true b e next = subst (IndexesSoFar columns) (ok_same before is e) are
      go false true e next = let i = bind_ok (index_at columns before line) _ is e in next i.0 i.1 i.2
      go false false e next = absurd cc

table_name_ok : (tables : List TableDef) (db : List ℕ) (line : List Token) (name : List ℕ) → table_name_at tables db line ≡ Ok name → (is_name name ≡ true) × (has_table tables db name ≡ false)
unfolding table_name_at
table_name_ok tables db line name e =
    let t = bind_ok (name_at line 2) _ name e in
    let g = guard_ok (has_table tables db t.0) _ (Ok t.0) name t.2 in
    let is = ok_same t.0 name g.1 in
    (name_ok line 2 name (t.1 ∙ g.1), subst (λ n. has_table tables db n ≡ false) is g.0)

room_left : (tables : List TableDef) (line : List Token) (started : Unit {0}) → start_at tables line ≡ Ok started → length tables < 64
room_left tables line started e =
    let word = guard_ok (not (is_word (codes "table") (slice_get line 0))) _ _ started e in
    let room = guard_ok (leb 64 (length tables)) _ _ started word.1 in
    leb-false 64 (length tables) room.0

whole_ok : (t whole : TableDef) (end : ℕ) → whole_table t end ≡ Ok whole → (list_any (λ i. is_primary i.kind) t.indexes ≡ true) × (most_row_size t.columns ≤ 16384) × (is_led t.columns t.indexes ≡ true) × (t ≡ whole)
whole_ok t whole end e =
    let p = guard_ok (not (list_any (λ i. is_primary i.kind) t.indexes)) _ _ whole e in
    let r = guard_ok (ltb 16384 (most_row_size t.columns)) _ _ whole p.1 in
    let l = guard_ok (not (is_led t.columns t.indexes)) _ _ whole r.1 in
    (not_false (list_any (λ i. is_primary i.kind) t.indexes) p.0, ltb-false 16384 (most_row_size t.columns) r.0, not_false (is_led t.columns t.indexes) l.0, ok_same t whole l.1)

pub table_ok : (tables : List TableDef) (line : List Token) (t : TableDef) → table_at tables line ≡ Ok t → IsTable t × (has_table tables t.db t.name ≡ false) × (length tables < 64)
unfolding table_at
table_ok tables line t e =
    let s = bind_ok (start_at tables line) _ t e in
    let d = bind_ok (name_at line 1) _ t s.2 in
    let n = bind_ok (table_name_at tables d.0 line) _ t d.2 in
    let c = bind_ok (columns_of line) _ t n.2 in
    let i = bind_ok (indexes_at 16 c.0 [] line) _ t c.2 in
    let name = table_name_ok tables d.0 line n.0 n.1 in
    let columns = columns_of_ok line c.0 c.1 in
    let indexes = indexes_ok 16 c.0 [] line i.0 (omega arith) (record { each = tt; distinct = refl; most = omega arith }) i.1 in
    let whole = whole_ok _ t (length line) i.2 in
    subst (λ t. IsTable t × (has_table tables t.db t.name ≡ false) × (length tables < 64)) whole.3 (
      record {
        db = name_ok line 1 d.0 d.1;
        name = name.0;
        columns = record { each = columns.0.each; some = columns.1; most = columns.0.most; names = columns.0.distinct; once = columns.0.once; rows = whole.1 };
        indexes = record { each = indexes.each; most = indexes.most; names = indexes.distinct; primary = whole.0; led = whole.2 };
      },
      name.1,
      room_left tables line s.0 s.1,
    )

pub stays_valid : (old new : List TableDef) (line : List Token) (t : TableDef) → IsValid (record { tables = old }) → table_at old line ≡ Ok t → new ≡ old ++ t ∷ [] → IsValid (record { tables = new })
stays_valid old new line t valid read is =
    let ok = table_ok old line t read in
    subst (λ (ts : List TableDef). IsValid (record { tables = ts })) (sym is) (record {
      tables = all_push IsTable old t valid.tables ok.0;
      most = omega (arith, ok.2, length-append old (t ∷ []));
      names = distinct_push same_table old t valid.names ok.1;
    })
