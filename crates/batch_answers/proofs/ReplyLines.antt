-- Every reply is one line.
--     answered_line      the reply to an item
--     lines_for      those to a connection's items
use Rattle.std.proofs.Common.{◌≡◌, ℕ, ℤ, suc, ◌+◌, ◌≤◌, Bool, true, false, cond, eqb, leb, List, [], ◌∷◌, ◌++◌, length, Option, Some, None, Result, Ok, Err, refl, ap, ◌∙◌, ⊎_elim, arith, append_assoc}
use Rattle.std.specs.Prelude.{decimal}
use Rattle.std.specs.Fmt.{signed_decimal}
use Rattle.std.proofs.lemmas.Bool.{cases_Bool, ne_eqb, leb-true}
use Rattle.hs_token.specs.declared.tokens.Token.{Token}
use Rattle.hs_token.specs.declared.tokens.Token.TheVariants.{Null, Text}
use Rattle.hs_token.specs.Spelling.{byte_spelled, text_spelled, token_spelled, line_spelled, reply_line}
use Rattle.hs_line.specs.Lines.{IsLine}
use Rattle.hs_line.proofs.LinesLemmas.{has_lf-append}
use Rattle.request_types.specs.declared.codes.Code.{Code}
use Rattle.request_types.specs.Code.{number, text_of}
use Rattle.request_types.specs.declared.connections.ConnId.{ConnId}
use Rattle.request_types.specs.declared.batches.Item.{Item}
use Rattle.request_types.specs.declared.batches.ItemKind.{ItemKind}
use Rattle.request_types.specs.declared.batches.ItemKind.TheVariants as kinds
use Rattle.request_types.specs.declared.finds.FindSpec.{FindSpec}
use Rattle.request_types.specs.declared.mods.ModSpec.{ModSpec}
use Rattle.request_types.specs.declared.requests.Request.TheVariants.{Find, Modify, Insert}
use Rattle.request_types.specs.Ids.{same_id}
use Rattle.table_rows.specs.Rows.{State}
use Rattle.table_rows.specs.Database.{Database, placed_in}
use Rattle.find_scan.specs.Rendering.{rendered}
use Rattle.find_scan.specs.declared.replies.Rendered.{Rendered}
use Rattle.find_scan.specs.declared.replies.Rendered.TheVariants.{Fits, TooBig}
use Rattle.row_insert.specs.Refusal.{refusal_of}
use Rattle.row_insert.specs.declared.drawing.Arrival.{Arrival}
use Rattle.row_insert.specs.Draw.{coming_to}
use Rattle.row_insert.specs.Insert.{new_row}
use Rattle.table_rows.specs.Rows.{columns_of}
use Rattle.batch_answers.specs.Replies.{code_reply, count_reply, insert_reply, big}
use Rattle.batch_answers.specs.Answers.{chosen, rows_reply, unless_big, changed, unless_refused, unless_barred, inserted, answered, answers, replies_for, items_for, IsReply, AreLines}

-- ---- no spelling has a line feed

byte_line : (b : ℕ) → IsLine (byte_spelled b)
byte_line b =
    ⊎_elim
    (λ high.
    let more : 16 ≤ b = leb-true 16 b high in
    let other : eqb b 10 ≡ false = ne_eqb b 10 (omega (arith, more)) in
    rw high (rw other refl))
    (λ low. let other : eqb (b + 64) 10 ≡ false = ne_eqb (b + 64) 10 (omega arith) in rw low (rw other refl))
    (cases_Bool (leb 16 b))

two_lines : (xs ys : List ℕ) → IsLine xs → IsLine ys → IsLine (xs ++ ys)
two_lines xs ys first second = has_lf-append xs ys ∙ rw (first, second) refl

text_line : (text : List ℕ) → IsLine (text_spelled text)
text_line [] = refl
text_line (b ∷ bs) = two_lines (byte_spelled b) (text_spelled bs) (byte_line b) (text_line bs)

token_line : (token : Token) → IsLine (token_spelled token)
token_line Null = refl
token_line (Text bytes) = text_line bytes

spelled_line : (tokens : List Token) → IsLine (line_spelled tokens)
spelled_line [] = refl
spelled_line (t ∷ []) = token_line t
spelled_line (t ∷ u ∷ ts) = two_lines (token_spelled t) (9 ∷ line_spelled (u ∷ ts)) (token_line t) (spelled_line (u ∷ ts))

-- ---- the replies

is_reply : (code count : ℕ) (tokens : List Token) → IsReply (reply_line code count tokens)
is_reply code count tokens = (
  line_spelled (Text (decimal code) ∷ Text (decimal count) ∷ tokens),
  spelled_line (Text (decimal code) ∷ Text (decimal count) ∷ tokens),
  refl,
)

code_line : (code : ℕ) → IsReply (code_reply code)
code_line code = by (eqb code 0) where
  by : (b : Bool) → IsReply (cond b (reply_line 0 1 []) (reply_line code 1 (Text (text_of code) ∷ [])))
  by true = is_reply 0 1 []
  by false = is_reply code 1 (Text (text_of code) ∷ [])

big_line : (r : Rendered) (db : Database) (answer : List ℕ × Database) → IsReply answer.0 → IsReply (unless_big r db answer).0
big_line Fits db answer is = is
big_line TooBig db answer is = code_line big

refused_line : (db : Database) (reply : List ℕ) (made : Result State Code) → IsReply reply → IsReply (unless_refused db reply made).0
refused_line db reply (Ok state) is = is
refused_line db reply (Err code) is = code_line (number code)

number_line : (drawn : Option ℤ) → IsReply (insert_reply drawn)
number_line None = code_line 0
number_line (Some drawn) = is_reply 0 1 (Text (signed_decimal drawn) ∷ [])

barred_line : (db : Database) (table : ℕ) (come : Arrival) (why : Option Code) → IsReply (unless_barred db table come why).0
barred_line db table come None = number_line come.number
barred_line db table come (Some code) = code_line (number code)

inserted_line : (db : Database) (table : ℕ) (made : Result Arrival Code) → IsReply (inserted db table made).0
inserted_line db table (Ok come) = barred_line db table come (refusal_of (placed_in db) table come.row None)
inserted_line db table (Err code) = code_line (number code)

rows_line : (db : Database) (find : FindSpec) → IsReply (rows_reply db find)
rows_line db find = is_reply 0 (length find.columns) _

change_line : (db : Database) (find : FindSpec) (change : ModSpec) → (show : Bool) → IsReply (cond show (unless_big (rendered (rows_reply db find)) db (unless_refused db (rows_reply db find) (changed db find change))) (unless_refused db (count_reply (length (chosen db find))) (changed db find change))).0
change_line db find change true = big_line (rendered (rows_reply db find)) db _ (refused_line db (rows_reply db find) (changed db find change) (rows_line db find))
change_line db find change false = refused_line db (count_reply (length (chosen db find))) (changed db find change) (is_reply 0 1 (Text (decimal (length (chosen db find))) ∷ []))

pub answered_line : (db : Database) (kind : ItemKind) → IsReply (answered db kind).0
answered_line db (kinds.Ready code) = code_line code
answered_line db (kinds.Hs (Find find)) = big_line (rendered (rows_reply db find)) db (rows_reply db find, db) (rows_line db find)
answered_line db (kinds.Hs (Modify find change)) = change_line db find change change.show
answered_line db (kinds.Hs (Insert spec)) =
    inserted_line db spec.table (coming_to (placed_in db) spec.table (new_row (columns_of (placed_in db) spec.table) spec))

-- ---- those of a connection

lines_on : (id : ConnId) (replies rest : List ℕ) (item : Item) (items : List Item) → IsReply replies → AreLines rest items → AreLines (replies ++ rest) (item ∷ items)
lines_on id replies rest item items one more = record {
  lines = one.0 ∷ more.lines;
  each = (one.1, more.each);
  count = ap (λ (n : ℕ). suc n) more.count;
  is = ap (λ (r : List ℕ). r ++ rest) one.2 ∙ append_assoc one.0 (10 ∷ []) rest ∙ ap (λ (r : List ℕ). one.0 ++ 10 ∷ r) more.is;
}

pub lines_for : (db : Database) (items : List Item) (id : ConnId) → AreLines (replies_for id (answers db items)) (items_for id items)
lines_for db [] id = record { lines = []; each = tt; count = refl; is = refl }
lines_for db (item ∷ items) id =
    let next = (answered db item.kind).1 in
    let more = lines_for next items id in
    ⊎_elim
    (λ own. rw own (lines_on id (answered db item.kind).0 (replies_for id (answers next items)) item (items_for id items) (answered_line db item.kind) more))
    (λ other. rw other more)
    (cases_Bool (same_id item.conn id))
