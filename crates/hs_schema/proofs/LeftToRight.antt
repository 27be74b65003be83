-- A table line is read from the left.
use Rattle.std.proofs.Common.{◌≡◌, ℕ, zero, suc, ◌+◌, ◌<◌, ◌≤◌, Bool, true, false, cond, not, ◌&&◌, leb, List, [], ◌∷◌, ◌++◌, length, take, Option, Some, None, Ok, ap, subst, arith, codes}
use Rattle.std.specs.Prelude.{Result, slice_get, nat_eq, nat_lt}
use Rattle.std.specs.Option.{is_none}
use Rattle.std.specs.List.{list_any, list_all}
use Rattle.std.proofs.lemmas.List.{length-append}
use Rattle.hs_token.specs.declared.tokens.Token.{Token}
use Rattle.hs_token.specs.declared.tokens.Token.TheVariants as tokens
use Rattle.row_types.specs.declared.columns.Kind.{Kind}
use Rattle.row_types.specs.declared.columns.Column.{Column}
use Rattle.row_types.specs.declared.indexes.IndexKind.{IndexKind}
use Rattle.row_types.specs.declared.indexes.IndexDef.{IndexDef}
use Rattle.row_types.specs.declared.tables.TableDef.{TableDef}
use Rattle.row_types.specs.Counted.{is_led}
use Rattle.row_types.specs.Valid.{is_name, are_distinct, is_primary, may_be_null, most_row_size}
use Rattle.hs_schema.specs.declared.nullness.Nullness.{Nullness}
use Rattle.hs_schema.specs.declared.faults.SchemaRule.{SchemaRule}
use Rattle.hs_schema.specs.declared.faults.SchemaRule.TheVariants.{BadKind, BadName, DuplicateName, NoPrimary, TooMany}
use Rattle.hs_schema.specs.Reading.{◌>>=◌, Breach, broken, is_word, text_in, text_at, name_at, known, kind_of, nullness_of, is_counted, can_count, nullness_at, preset_of, preset_in, has_column, column_name_at, column_place, column_at, columns_at, columns_of, parts_of, index_kind_of, suits, fine_parts, index_place, has_index, index_name_at, index_kind_at, index_at, index_follows, indexes_at, has_table, table_name_at, whole_table, table_at}
use Rattle.hs_schema.proofs.FromLeft.{FailsLeft, ReadsLeft, fails_from, reads_from, bind_fails, bind_reads, bind_last, At, at_ok, at_broken, at_cond, at_bind, at_known, at_text, one_fails, one_reads, none_fails, none_reads, choice_fails, choice_reads, end_is, fails_same, reads_same, agree_taken}
use Rattle.hs_schema.proofs.Cases.{ok_same}

-- what one token has to be
abbrev name_in : ℕ → Option Token → Result (List ℕ) Breach
name_in place o = text_in place o >>= λ text. cond (is_name text) (Ok text) (broken BadName place)

name_at_one : (place : ℕ) (o : Option Token) → At place (name_in place o)
name_at_one place o = at_bind place (text_in place o) _ (at_text place o) (λ text. at_cond place (is_name text) (Ok text) (broken BadName place) (at_ok place text) (at_broken BadName place))

abbrev new_name_in : (List ℕ → Bool) → ℕ → Option Token → Result (List ℕ) Breach
new_name_in has place o = name_in place o >>= λ name. cond (has name) (broken DuplicateName place) (Ok name)

new_name_one : (has : List ℕ → Bool) (place : ℕ) (o : Option Token) → At place (new_name_in has place o)
new_name_one has place o = at_bind place (name_in place o) _ (name_at_one place o) (λ name. at_cond place (has name) (broken DuplicateName place) (Ok name) (at_broken DuplicateName place) (at_ok place name))

abbrev known_in : {A : Type 0} → (List ℕ → Option A) → ℕ → Option Token → Result A Breach
known_in tell place o = text_in place o >>= λ text. known place (tell text)

known_one : {A : Type 0} (tell : List ℕ → Option A) (place : ℕ) (o : Option Token) → At place (known_in tell place o)
known_one tell place o = at_bind place (text_in place o) _ (at_text place o) (λ text. at_known place (tell text))

abbrev nullness_in : List Column → Kind → ℕ → Option Token → Result Nullness Breach
nullness_in before kind place o = text_in place o >>= λ text. known place (nullness_of text) >>= λ nullness. cond (is_counted nullness && not (can_count before kind)) (broken BadKind place) (Ok nullness)

nullness_one : (before : List Column) (kind : Kind) (place : ℕ) (o : Option Token) → At place (nullness_in before kind place o)
nullness_one before kind place o = at_bind place (text_in place o) _ (at_text place o) (λ text. at_bind place (known place (nullness_of text)) _ (at_known place (nullness_of text)) (λ nullness. at_cond place (is_counted nullness && not (can_count before kind)) (broken BadKind place) (Ok nullness) (at_broken BadKind place) (at_ok place nullness)))

preset_one : (kind : Kind) (counted : Bool) (place : ℕ) (o : Option Token) → At place (preset_in kind counted place o)
preset_one kind counted place None = at_broken BadKind place
preset_one kind counted place (Some tokens.Null) = at_ok place _
preset_one kind true place (Some (tokens.Text text)) = at_broken BadKind place
preset_one kind false place (Some (tokens.Text text)) = at_known place (preset_of kind text)

abbrev index_kind_in : List ℕ → ℕ → Option Token → Result IndexKind Breach
index_kind_in name place o = text_in place o >>= λ text. known place (index_kind_of text) >>= λ kind. cond (suits kind name) (Ok kind) (broken BadName place)

index_kind_one : (name : List ℕ) (place : ℕ) (o : Option Token) → At place (index_kind_in name place o)
index_kind_one name place o = at_bind place (text_in place o) _ (at_text place o) (λ text. at_bind place (known place (index_kind_of text)) _ (at_known place (index_kind_of text)) (λ kind. at_cond place (suits kind name) (Ok kind) (broken BadName place) (at_ok place kind) (at_broken BadName place)))

parts_one : (columns : List Column) (kind : IndexKind) (place : ℕ) (parts : List ℕ) → At place (fine_parts columns kind place parts)
unfolding fine_parts
parts_one columns kind place parts =
    at_cond place (is_primary kind && list_any (may_be_null columns) parts) _ _ (at_broken BadKind place)
    (at_cond place (not (list_all (λ part. nat_lt part (length columns)) parts)) _ _ (at_broken BadName place)
    (at_cond place (not (are_distinct nat_eq parts)) _ _ (at_broken DuplicateName place)
    (at_cond place (nat_lt 8 (length parts)) _ _ (at_broken TooMany place) (at_ok place parts))))

-- the tokens of a column
column_fails : (before : List Column) → FailsLeft (column_place before + 1) (column_at before)
unfolding column_at column_name_at name_at nullness_at
column_fails before =
    let p = column_place before in
    bind_fails (p + 1) (λ name. p + 2) (λ name. p + 1 + 1) (λ line. new_name_in (has_column before) (p + 1) (slice_get line (p + 1))) _ (one_fails (p + 1) (new_name_in (has_column before) (p + 1)) (new_name_one (has_column before) (p + 1))) (one_reads (p + 1) (p + 1) (new_name_in (has_column before) (p + 1)) (omega arith))
    (λ name. bind_fails (p + 2) (λ kind. p + 3) (λ kind. p + 2 + 1) (λ line. known_in kind_of (p + 2) (slice_get line (p + 2))) _ (one_fails (p + 2) (known_in kind_of (p + 2)) (known_one kind_of (p + 2))) (one_reads (p + 2) (p + 2) (known_in kind_of (p + 2)) (omega arith))
    (λ kind. bind_fails (p + 3) (λ null. p + 4) (λ null. p + 3 + 1) (λ line. nullness_in before kind (p + 3) (slice_get line (p + 3))) _ (one_fails (p + 3) (nullness_in before kind (p + 3)) (nullness_one before kind (p + 3))) (one_reads (p + 3) (p + 3) (nullness_in before kind (p + 3)) (omega arith))
    (λ null. bind_fails (p + 4) (λ preset. p + 4) (λ preset. p + 4 + 1) (λ line. preset_in kind (is_counted null) (p + 4) (slice_get line (p + 4))) _ (one_fails (p + 4) (preset_in kind (is_counted null) (p + 4)) (preset_one kind (is_counted null) (p + 4))) (one_reads (p + 4) (p + 4) (preset_in kind (is_counted null) (p + 4)) (omega arith))
    (λ preset. none_fails (p + 4) _ (at_ok (p + 4) _)) (λ preset. omega arith) (λ preset. omega arith))
    (λ null. omega arith) (λ null. omega arith))
    (λ kind. omega arith) (λ kind. omega arith))
    (λ name. omega arith) (λ name. omega arith)

column_reads : (before : List Column) → ReadsLeft (column_place before + 1) (λ c. column_place before + 5) (column_at before)
unfolding column_at column_name_at name_at nullness_at
column_reads before =
    let p = column_place before in
    bind_reads (p + 1) (λ name. p + 1 + 1) (λ c. p + 5) (λ line. new_name_in (has_column before) (p + 1) (slice_get line (p + 1))) _ (one_reads (p + 1) (p + 1) (new_name_in (has_column before) (p + 1)) (omega arith))
    (λ name. bind_reads (p + 1 + 1) (λ kind. p + 2 + 1) (λ c. p + 5) (λ line. known_in kind_of (p + 2) (slice_get line (p + 2))) _ (one_reads (p + 1 + 1) (p + 2) (known_in kind_of (p + 2)) (omega arith))
    (λ kind. bind_reads (p + 2 + 1) (λ null. p + 3 + 1) (λ c. p + 5) (λ line. nullness_in before kind (p + 3) (slice_get line (p + 3))) _ (one_reads (p + 2 + 1) (p + 3) (nullness_in before kind (p + 3)) (omega arith))
    (λ null. bind_reads (p + 3 + 1) (λ preset. p + 4 + 1) (λ c. p + 5) (λ line. preset_in kind (is_counted null) (p + 4) (slice_get line (p + 4))) _ (one_reads (p + 3 + 1) (p + 4) (preset_in kind (is_counted null) (p + 4)) (omega arith))
    (λ preset. none_reads (p + 4 + 1) (λ c. p + 5) _ (λ c e. omega arith)))))

-- where the columns end
abbrev columns_end : List Column → ℕ
columns_end columns = column_place columns + 1

next_place : (before : List Column) (c : Column) → column_place (before ++ c ∷ []) ≡ column_place before + 5
next_place before c = omega (arith, length-append before (c ∷ []))

columns_fail : (room : ℕ) (before : List Column) → FailsLeft (column_place before) (columns_at room before)
unfolding columns_at
columns_fail zero before =
    let p = column_place before in
    choice_fails p (is_word (codes "c")) (λ line. broken TooMany p) (λ line. Ok before) (none_fails p _ (at_broken TooMany p)) (none_fails p _ (at_ok p before))
columns_fail (suc room) before =
    let p = column_place before in
    choice_fails p (is_word (codes "c")) (λ line. column_at before line >>= λ c. columns_at room (before ++ c ∷ []) line) (λ line. Ok before)
    (bind_fails p (λ c. column_place (before ++ c ∷ [])) (λ c. p + 5) (column_at before) (λ c. columns_at room (before ++ c ∷ [])) (fails_from p (p + 1) (column_at before) (omega arith) (column_fails before)) (reads_from p (p + 1) (λ c. p + 5) (column_at before) (omega arith) (column_reads before))
    (λ c. columns_fail room (before ++ c ∷ [])) (λ c. omega (arith, next_place before c)) (λ c. omega (arith, next_place before c)))
    (none_fails p _ (at_ok p before))

columns_read : (room : ℕ) (before : List Column) → ReadsLeft (column_place before + 1) columns_end (columns_at room before)
unfolding columns_at
columns_read zero before =
    let p = column_place before in
    choice_reads p columns_end (is_word (codes "c")) (λ line. broken TooMany p) (λ line. Ok before) (none_reads (p + 1) columns_end _ (λ cs e. absurd cc)) (done before) where
      done : (before : List Column) → ReadsLeft (column_place before + 1) columns_end (λ line. Ok before)
      done before = none_reads (column_place before + 1) columns_end _ (λ cs e. subst (λ cs. column_place before + 1 ≤ columns_end cs) (ok_same before cs e) (omega arith))
columns_read (suc room) before =
    let p = column_place before in
    choice_reads p columns_end (is_word (codes "c")) (λ line. column_at before line >>= λ c. columns_at room (before ++ c ∷ []) line) (λ line. Ok before)
    (bind_reads (p + 1) (λ c. p + 5) columns_end (column_at before) (λ c. columns_at room (before ++ c ∷ [])) (column_reads before)
    (λ c. reads_from (p + 5) (column_place (before ++ c ∷ []) + 1) columns_end (columns_at room (before ++ c ∷ [])) (omega (arith, next_place before c)) (columns_read room (before ++ c ∷ []))))
    (none_reads (p + 1) columns_end _ (λ cs e. subst (λ cs. p + 1 ≤ columns_end cs) (ok_same before cs e) (omega arith)))

columns_of_fails : FailsLeft 3 columns_of
unfolding columns_of
columns_of_fails = choice_fails 3 (is_word (codes "c")) (columns_at 64 []) (λ line. broken BadKind 3) (columns_fail 64 []) (none_fails 3 _ (at_broken BadKind 3))

columns_of_reads : ReadsLeft (3 + 1) columns_end columns_of
unfolding columns_of
columns_of_reads = choice_reads 3 columns_end (is_word (codes "c")) (columns_at 64 []) (λ line. broken BadKind 3) (columns_read 64 []) (none_reads (3 + 1) columns_end _ (λ cs e. absurd cc))

-- the tokens of an index
index_fails : (columns : List Column) (before : List IndexDef) → FailsLeft (index_place columns before + 1) (index_at columns before)
unfolding index_at index_name_at index_kind_at name_at
index_fails columns before =
    let p = index_place columns before in
    bind_fails (p + 1) (λ name. p + 2) (λ name. p + 1 + 1) (λ line. new_name_in (has_index before) (p + 1) (slice_get line (p + 1))) _ (one_fails (p + 1) (new_name_in (has_index before) (p + 1)) (new_name_one (has_index before) (p + 1))) (one_reads (p + 1) (p + 1) (new_name_in (has_index before) (p + 1)) (omega arith))
    (λ name. bind_fails (p + 2) (λ kind. p + 3) (λ kind. p + 2 + 1) (λ line. index_kind_in name (p + 2) (slice_get line (p + 2))) _ (one_fails (p + 2) (index_kind_in name (p + 2)) (index_kind_one name (p + 2))) (one_reads (p + 2) (p + 2) (index_kind_in name (p + 2)) (omega arith))
    (λ kind. bind_fails (p + 3) (λ text. p + 3) (λ text. p + 3 + 1) (λ line. text_at line (p + 3)) _ (one_fails (p + 3) (text_in (p + 3)) (at_text (p + 3))) (one_reads (p + 3) (p + 3) (text_in (p + 3)) (omega arith))
    (λ text. none_fails (p + 3) _ (at_bind (p + 3) (fine_parts columns kind (p + 3) (parts_of columns text)) _ (parts_one columns kind (p + 3) (parts_of columns text)) (λ parts. at_ok (p + 3) _)))
    (λ text. omega arith) (λ text. omega arith))
    (λ kind. omega arith) (λ kind. omega arith))
    (λ name. omega arith) (λ name. omega arith)

index_reads : (columns : List Column) (before : List IndexDef) → ReadsLeft (index_place columns before + 1) (λ i. index_place columns before + 4) (index_at columns before)
unfolding index_at index_name_at index_kind_at name_at
index_reads columns before =
    let p = index_place columns before in
    bind_reads (p + 1) (λ name. p + 1 + 1) (λ i. p + 4) (λ line. new_name_in (has_index before) (p + 1) (slice_get line (p + 1))) _ (one_reads (p + 1) (p + 1) (new_name_in (has_index before) (p + 1)) (omega arith))
    (λ name. bind_reads (p + 1 + 1) (λ kind. p + 2 + 1) (λ i. p + 4) (λ line. index_kind_in name (p + 2) (slice_get line (p + 2))) _ (one_reads (p + 1 + 1) (p + 2) (index_kind_in name (p + 2)) (omega arith))
    (λ kind. bind_reads (p + 2 + 1) (λ text. p + 3 + 1) (λ i. p + 4) (λ line. text_at line (p + 3)) _ (one_reads (p + 2 + 1) (p + 3) (text_in (p + 3)) (omega arith))
    (λ text. none_reads (p + 3 + 1) (λ i. p + 4) _ (λ i e. omega arith))))

-- whether an index follows, by the token there
abbrev follows_in : ℕ → Option Token → Result Bool Breach
follows_in place o = cond (is_none o) (Ok false) (cond (is_word (codes "i") o) (Ok true) (broken BadKind place))

follows_same : (place : ℕ) (line : List Token) → index_follows line place ≡ follows_in place (slice_get line place)
follows_same place line = ap (λ b. cond b (Ok false) (cond (is_word (codes "i") (slice_get line place)) (Ok true) (broken BadKind place))) (end_is line place)

follows_one : (place : ℕ) (o : Option Token) → At place (follows_in place o)
follows_one place o = at_cond place (is_none o) _ _ (at_ok place false) (at_cond place (is_word (codes "i") o) _ _ (at_ok place true) (at_broken BadKind place))

follows_fails : (place : ℕ) → FailsLeft place (λ line. index_follows line place)
follows_fails place = fails_same place _ (λ line. follows_in place (slice_get line place)) (follows_same place) (one_fails place (follows_in place) (follows_one place))

follows_reads : (place : ℕ) → ReadsLeft place (λ more. place + 1) (λ line. index_follows line place)
follows_reads place = reads_same place (λ more. place + 1) _ (λ line. follows_in place (slice_get line place)) (follows_same place) (one_reads place place (follows_in place) (omega arith))

next_index : (columns : List Column) (before : List IndexDef) (i : IndexDef) → index_place columns (before ++ i ∷ []) ≡ index_place columns before + 4
next_index columns before i = omega (arith, length-append before (i ∷ []))

indexes_fail : (room : ℕ) (columns : List Column) (before : List IndexDef) → FailsLeft (index_place columns before) (indexes_at room columns before)
unfolding indexes_at
indexes_fail zero columns before =
    let p = index_place columns before in
    bind_fails p (λ more. p) (λ more. p + 1) (λ line. index_follows line p) (λ more line. cond more (broken TooMany p) (Ok before)) (follows_fails p) (follows_reads p)
    (λ more. none_fails p _ (at_cond p more _ _ (at_broken TooMany p) (at_ok p before))) (λ more. omega arith) (λ more. omega arith)
indexes_fail (suc room) columns before =
    let p = index_place columns before in
    let step : FailsLeft p (λ line. index_at columns before line >>= λ i. indexes_at room columns (before ++ i ∷ []) line) =
    bind_fails p (λ i. index_place columns (before ++ i ∷ [])) (λ i. p + 4) (index_at columns before) (λ i. indexes_at room columns (before ++ i ∷ [])) (fails_from p (p + 1) (index_at columns before) (omega arith) (index_fails columns before)) (reads_from p (p + 1) (λ i. p + 4) (index_at columns before) (omega arith) (index_reads columns before))
    (λ i. indexes_fail room columns (before ++ i ∷ [])) (λ i. omega (arith, next_index columns before i)) (λ i. omega (arith, next_index columns before i)) in
    bind_fails p (λ more. p) (λ more. p + 1) (λ line. index_follows line p) (λ more line. cond more (index_at columns before line >>= λ i. indexes_at room columns (before ++ i ∷ []) line) (Ok before)) (follows_fails p) (follows_reads p)
    (either p (λ line. index_at columns before line >>= λ i. indexes_at room columns (before ++ i ∷ []) line) before step) (λ more. omega arith) (λ more. omega arith) where
      either : (p : ℕ) (read : List Token → Result (List IndexDef) Breach) (before : List IndexDef) → FailsLeft p read → (more : Bool) → FailsLeft p (λ line. cond more (read line) (Ok before))
      either p read before step true = step
      either p read before step false = none_fails p _ (at_ok p before)

-- the whole line
abbrev start_in : List TableDef → Option Token → Result (Unit {0}) Breach
start_in tables o = cond (not (is_word (codes "table") o)) (broken BadKind 0) (cond (leb 64 (length tables)) (broken TooMany 0) (Ok tt))

start_one : (tables : List TableDef) (o : Option Token) → At 0 (start_in tables o)
start_one tables o = at_cond 0 (not (is_word (codes "table") o)) _ _ (at_broken BadKind 0) (at_cond 0 (leb 64 (length tables)) _ _ (at_broken TooMany 0) (at_ok 0 tt))

whole_end : (t : TableDef) (place : ℕ) → At place (whole_table t place)
whole_end t place = at_cond place (not (list_any (λ i. is_primary i.kind) t.indexes)) _ _ (at_broken NoPrimary place) (at_cond place (nat_lt 16384 (most_row_size t.columns)) _ _ (at_broken TooMany place) (at_cond place (not (is_led t.columns t.indexes)) _ _ (at_broken BadKind place) (at_ok place t)))

table_fails : (tables : List TableDef) → FailsLeft 0 (table_at tables)
unfolding table_at table_name_at name_at
table_fails tables =
    bind_fails 0 (λ s. 1) (λ s. 0 + 1) (λ line. start_in tables (slice_get line 0)) _ (one_fails 0 (start_in tables) (start_one tables)) (one_reads 0 0 (start_in tables) (omega arith))
    (λ s. bind_fails 1 (λ db. 2) (λ db. 1 + 1) (λ line. name_in 1 (slice_get line 1)) _ (one_fails 1 (name_in 1) (name_at_one 1)) (one_reads 1 1 (name_in 1) (omega arith))
    (λ db. bind_fails 2 (λ name. 3) (λ name. 2 + 1) (λ line. new_name_in (has_table tables db) 2 (slice_get line 2)) _ (one_fails 2 (new_name_in (has_table tables db) 2) (new_name_one (has_table tables db) 2)) (one_reads 2 2 (new_name_in (has_table tables db) 2) (omega arith))
    (λ name. bind_fails 3 (λ columns. column_place columns) columns_end columns_of _ columns_of_fails (reads_from 3 (3 + 1) columns_end columns_of (omega arith) columns_of_reads)
    (λ columns. bind_last (column_place columns) (indexes_at 16 columns []) _ (rest_fails columns) (λ indexes line b e. whole_end (record { db = db; name = name; columns = columns; indexes = indexes }) (length line) b e))
    (λ columns. omega arith) (λ columns. omega arith))
    (λ name. omega arith) (λ name. omega arith))
    (λ db. omega arith) (λ db. omega arith))
    (λ s. omega arith) (λ s. omega arith) where
      rest_fails : (columns : List Column) → FailsLeft (column_place columns) (indexes_at 16 columns [])
      rest_fails columns = fails_from (column_place columns) (index_place columns []) (indexes_at 16 columns []) (omega arith) (indexes_fail 16 columns [])

pub same_breach : (tables : List TableDef) (line other : List Token) (rule : SchemaRule) (token : ℕ) → table_at tables line ≡ broken rule token → token < length line → take (token + 1) line ≡ take (token + 1) other → table_at tables other ≡ broken rule token
same_breach tables line other rule token e lt same = (table_fails tables).alike line other (record { rule = rule; token = token }) e lt (agree_taken (token + 1) line other same)
