-- What a column spells is read again.
use Rattle.std.proofs.Common.{◌≡◌, ◌∙◌, ℕ, zero, suc, ◌+◌, ◌^◌, ◌<◌, ◌≤◌, Bool, true, false, cond, not, ◌&&◌, ◌||◌, leb, ltb, eqb, List, [], ◌∷◌, ◌++◌, length, drop, Some, Ok, refl, sym, ap, arith, codes, zero-add, add-zero, decimal}
use Rattle.std.specs.Prelude.{slice_get, slice_index, flat_map}
use Rattle.std.specs.List.{list_any, AllByRecursion}
use Rattle.std.proofs.lemmas.Bool.{leb-true, ne_eqb}
use Rattle.std.proofs.lemmas.Fmt.{first_decimal}
use Rattle.std.proofs.lemmas.List.{drop-drop, length-append}
use mathlib.Core.List.{append_assoc, append-nil}
use Rattle.hs_token.specs.declared.tokens.Token.{Token}
use Rattle.hs_token.specs.declared.tokens.Token.TheVariants as tokens
use Rattle.hs_token.specs.Number.{u32_of}
use Rattle.hs_token.proofs.NumberLemmas.{printed_u32, printed_i64}
use Rattle.row_types.specs.declared.values.Value.{Value}
use Rattle.row_types.specs.declared.values.Value.TheVariants as values
use Rattle.row_types.specs.declared.columns.Kind.{Kind}
use Rattle.row_types.specs.declared.columns.Kind.TheVariants as kinds
use Rattle.row_types.specs.declared.columns.Column.{Column}
use Rattle.row_types.specs.declared.columns.Fit.TheVariants.{Fine, Long}
use Rattle.row_types.specs.Fit.{kind_fit}
use Rattle.row_types.specs.Counted.{has_counted, both_counted, counts}
use Rattle.row_types.specs.Valid.{is_kind, same_column, are_distinct, IsHeld, IsColumn}
use Rattle.hs_schema.specs.declared.nullness.Nullness.{Nullness}
use Rattle.hs_schema.specs.declared.nullness.Nullness.TheVariants.{Allowed, Forbidden, Counted}
use Rattle.hs_schema.specs.Reading.{is_word, name_at, kind_of, nullness_of, allows_null, is_counted, can_count, nullness_at, preset_in, has_column, column_name_at, column_place, column_at, columns_at}
use Rattle.hs_schema.specs.Spelling.{kind_text, nullness_text, preset_token, column_tokens}
use Rattle.hs_schema.proofs.Cases.{and_true, or_false}
use Rattle.hs_schema.proofs.ColumnSteps.{goes_on, columns_end, columns_more}

-- a token at a place is one of the tokens from an earlier place on
pub get_from : {A : Type 0} (line : List A) (place k : ℕ) → slice_get line (place + k) ≡ slice_get (drop place line) k
get_from line zero k = rw zero-add refl
get_from [] (suc place) k = refl
get_from (x ∷ xs) (suc place) k =
    let one : suc place + k ≡ suc (place + k) = omega arith in
    rw one (get_from xs place k)

-- no item is the same as one before it
any_at : {A : Type 0} (p : A → Bool) (before : List A) (x : A) (rest : List A) → list_any p (before ++ x ∷ rest) ≡ false → p x ≡ false
any_at p [] x rest e = (or_false (p x) (list_any p rest) e).0
any_at p (y ∷ ys) x rest e = any_at p ys x rest (or_false (p y) (list_any p (ys ++ x ∷ rest)) e).1

not_true : (b : Bool) → not b ≡ true → b ≡ false
not_true true e = absurd cc
not_true false e = refl

pub new_at : {A : Type 0} (same : A → A → Bool) (before : List A) (x : A) (rest : List A) → are_distinct same (before ++ x ∷ rest) ≡ true → list_any (same x) before ≡ false
new_at same [] x rest e = refl
new_at same (y ∷ ys) x rest e =
    let d = and_true (not (list_any (λ z. same z y) (ys ++ x ∷ rest))) (are_distinct same (ys ++ x ∷ rest)) e in
    let other : same x y ≡ false = any_at (λ z. same z y) ys x rest (not_true (list_any (λ z. same z y) (ys ++ x ∷ rest)) d.0) in
    rw other (new_at same ys x rest d.1)

-- the words of a column
kind_again : (kind : Kind) → is_kind kind ≡ true → kind_of (kind_text kind) ≡ Some kind
kind_again kinds.Int fine = refl
kind_again (kinds.Bytes most) fine =
    let range = and_true (leb 1 most) (leb most 16316) fine in
    let low : 1 ≤ most = leb-true 1 most range.0 in
    let high : most ≤ 16316 = leb-true most 16316 range.1 in
    let some : 0 < most = omega arith in
    let wide : most < 2 ^ 64 = omega arith in
    let first = first_decimal most some wide in
    let digit : eqb (slice_index (decimal most) 0) 48 ≡ false = ne_eqb (slice_index (decimal most) 0) 48 (λ e. omega arith) in
    let again : u32_of (decimal most) ≡ Some most = printed_u32 most (omega arith) in
    rw (digit, again, fine) refl

-- the nullness of a column
abbrev meant : Bool → Bool → Nullness
meant auto null = cond auto Counted (cond null Allowed Forbidden)

nullness_again : (auto null : Bool) → nullness_of (nullness_text auto null) ≡ Some (meant auto null)
nullness_again true null = refl
nullness_again false true = refl
nullness_again false false = refl

counted_again : (auto null : Bool) → is_counted (meant auto null) ≡ auto
counted_again true null = refl
counted_again false true = refl
counted_again false false = refl

null_again : (auto null : Bool) (kind : Kind) (preset : Value) → (not auto || counts kind null preset) ≡ true → allows_null (meant auto null) ≡ null
null_again true true kinds.Int preset fine = absurd cc
null_again true true (kinds.Bytes most) preset fine = absurd cc
null_again true false kind preset fine = refl
null_again false true kind preset fine = refl
null_again false false kind preset fine = refl

-- none before a counted column is counted
none_counted : (c : Column) (before : List Column) → c.auto ≡ true → list_any (both_counted c) before ≡ false → has_counted before ≡ false
none_counted c [] counted e = refl
none_counted c (d ∷ ds) counted e =
    let parts = or_false (both_counted c d) (list_any (both_counted c) ds) e in
    let here : d.auto ≡ false = rw counted at parts.0 in
    rw (here, none_counted c ds counted parts.1) refl

may_count_again : (auto null : Bool) (kind : Kind) (preset : Value) (before : List Column) → (not auto || counts kind null preset) ≡ true → (auto ≡ true → has_counted before ≡ false) → (is_counted (meant auto null) && not (can_count before kind)) ≡ false
may_count_again false true kind preset before fine none = refl
may_count_again false false kind preset before fine none = refl
may_count_again true null kinds.Int preset before fine none = rw (none refl) refl
may_count_again true null (kinds.Bytes most) preset before fine none = absurd cc

text_fits : (most : ℕ) (text : List ℕ) → kind_fit (kinds.Bytes most) (values.Text text) ≡ Fine → ltb most (length text) ≡ false
text_fits most text e = go (ltb most (length text)) e where
  go : (b : Bool) → cond b Long Fine ≡ Fine → b ≡ false
  go true e = absurd cc
  go false e = refl

plain_again : (kind : Kind) (v : Value) (place : ℕ) → kind_fit kind v ≡ Fine → IsHeld v → preset_in kind false place (Some (preset_token v)) ≡ Ok v
plain_again kind values.Null place e held = refl
plain_again kinds.Int (values.Int z) place e held = rw (printed_i64 z held) refl
plain_again kinds.Int (values.Text text) place e held = absurd cc
plain_again (kinds.Bytes most) (values.Int z) place e held = absurd cc
plain_again (kinds.Bytes most) (values.Text text) place e held = rw (text_fits most text e) refl

none_again : (kind : Kind) (null : Bool) (v : Value) (place : ℕ) → counts kind null v ≡ true → preset_in kind true place (Some (preset_token v)) ≡ Ok v
none_again kind null values.Null place fine = refl
none_again kinds.Int true (values.Int z) place fine = absurd cc
none_again kinds.Int false (values.Int z) place fine = absurd cc
none_again kinds.Int true (values.Text text) place fine = absurd cc
none_again kinds.Int false (values.Text text) place fine = absurd cc
none_again (kinds.Bytes most) null (values.Int z) place fine = absurd cc
none_again (kinds.Bytes most) null (values.Text text) place fine = absurd cc

preset_again : (auto null : Bool) (kind : Kind) (v : Value) (place : ℕ) → (not auto || counts kind null v) ≡ true → kind_fit kind v ≡ Fine → IsHeld v → preset_in kind auto place (Some (preset_token v)) ≡ Ok v
preset_again true null kind v place fine e held = none_again kind null v place fine
preset_again false null kind v place fine e held = plain_again kind v place e held

-- the five tokens of a column stand from this place on
pub column_again : (before : List Column) (c : Column) (line rest : List Token) → drop (column_place before) line ≡ column_tokens c ++ rest → IsColumn c → has_column before c.name ≡ false → list_any (both_counted c) before ≡ false → column_at before line ≡ Ok c
unfolding column_at column_name_at name_at nullness_at
column_again before c line rest e is new first =
    let place = column_place before in
    let name : slice_get line (place + 1) ≡ Some (tokens.Text c.name) = get_from line place 1 ∙ ap (λ ts. slice_get ts 1) e in
    let kind : slice_get line (place + 2) ≡ Some (tokens.Text (kind_text c.kind)) = get_from line place 2 ∙ ap (λ ts. slice_get ts 2) e in
    let null : slice_get line (place + 3) ≡ Some (tokens.Text (nullness_text c.auto c.null)) = get_from line place 3 ∙ ap (λ ts. slice_get ts 3) e in
    let preset : slice_get line (place + 4) ≡ Some (preset_token c.preset) = get_from line place 4 ∙ ap (λ ts. slice_get ts 4) e in
    let count = may_count_again c.auto c.null c.kind c.preset before is.counts (λ counted. none_counted c before counted first) in
    rw (name, is.name, new, kind, kind_again c.kind is.kind, null, nullness_again c.auto c.null, count, preset, counted_again c.auto c.null, null_again c.auto c.null c.kind c.preset is.counts, preset_again c.auto c.null c.kind c.preset (place + 4) is.counts is.preset is.held) refl

pub on_at : (before : List Column) (c : Column) (line rest : List Token) → drop (column_place before) line ≡ column_tokens c ++ rest → goes_on before line ≡ true
on_at before c line rest e =
    let here : slice_get line (column_place before) ≡ Some (tokens.Text (codes "c")) = ap (slice_get line) (sym (add-zero (column_place before))) ∙ (get_from line (column_place before) 0 ∙ ap (λ ts. slice_get ts 0) e) in
    rw here refl

off_at : (before : List Column) (line rest : List Token) → drop (column_place before) line ≡ rest → is_word (codes "c") (slice_get rest 0) ≡ false → goes_on before line ≡ false
off_at before line rest e other =
    let here : slice_get line (column_place before) ≡ slice_get rest 0 = ap (slice_get line) (sym (add-zero (column_place before))) ∙ (get_from line (column_place before) 0 ∙ ap (λ ts. slice_get ts 0) e) in
    rw here other

next_column : (before : List Column) (c : Column) (line more : List Token) → drop (column_place before) line ≡ column_tokens c ++ more → drop (column_place (before ++ c ∷ [])) line ≡ more
next_column before c line more e =
    let five : column_place (before ++ c ∷ []) ≡ column_place before + 5 = omega (arith, length-append before (c ∷ [])) in
    rw (five, ← drop-drop 5 (column_place before) line, e) refl

pub columns_again : (room : ℕ) (before cs : List Column) (line rest : List Token) → drop (column_place before) line ≡ flat_map column_tokens cs ++ rest → is_word (codes "c") (slice_get rest 0) ≡ false → length cs ≤ room → AllByRecursion IsColumn cs → are_distinct same_column (before ++ cs) ≡ true → are_distinct both_counted (before ++ cs) ≡ true → columns_at room before line ≡ Ok (before ++ cs)
columns_again room before [] line rest e other le each distinct once =
    columns_end room before line (off_at before line rest e other) ∙ ap (λ (cs : List Column). Ok cs) (sym (append-nil before))
columns_again zero before (c ∷ cs) line rest e other le each distinct once = absurd (omega arith)
columns_again (suc room) before (c ∷ cs) line rest e other le each distinct once =
    let whole : drop (column_place before) line ≡ column_tokens c ++ (flat_map column_tokens cs ++ rest) = e in
    let grown : (before ++ c ∷ []) ++ cs ≡ before ++ c ∷ cs = append_assoc before (c ∷ []) cs in
    let read : column_at before line ≡ Ok c = column_again before c line (flat_map column_tokens cs ++ rest) whole each.0 (new_at same_column before c cs distinct) (new_at both_counted before c cs once) in
    let more = columns_again room (before ++ c ∷ []) cs line rest (next_column before c line (flat_map column_tokens cs ++ rest) whole) other (omega arith) each.1 (rw grown distinct) (rw grown once) in
    columns_more room before line (on_at before c line (flat_map column_tokens cs ++ rest) whole) ∙ (rw read (more ∙ ap (λ (cs : List Column). Ok cs) grown))
