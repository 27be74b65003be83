-- What items are answered, and the rows that they leave.
use Rattle.std.specs.Prelude.{◌≡◌, ℕ, List, [], ◌∷◌, ◌++◌, length, map, get_or, set, Option, Some, None, Result, Ok, Err, if◌then◌else◌}
use Rattle.std.specs.List.{AllByRecursion, filter}
use Rattle.std.specs.declared.cmp.Ordering.{Ordering}
use Rattle.hs_line.specs.Lines.{IsLine, joined}
use Rattle.index_tree.specs.Ordered.{with_item}
use Rattle.row_types.specs.declared.values.Value.{Value}
use Rattle.row_types.specs.Order.{key_cmp}
use Rattle.table_rows.specs.Entries.{Entry, cells}
use Rattle.table_rows.specs.Rows.{State, columns_of, indexes_of, counted_at}
use Rattle.table_rows.specs.Counters.{raised}
use Rattle.table_rows.specs.Indexes.{primary_of}
use Rattle.request_types.specs.declared.finds.FindSpec.{FindSpec}
use Rattle.request_types.specs.declared.mods.ModSpec.{ModSpec}
use Rattle.request_types.specs.declared.codes.Code.{Code}
use Rattle.request_types.specs.Code.{number}
use Rattle.request_types.specs.declared.inserts.InsertSpec.{InsertSpec}
use Rattle.request_types.specs.declared.requests.Request.{Request}
use Rattle.request_types.specs.declared.requests.Request.TheVariants.{Find, Modify, Insert}
use Rattle.find_scan.specs.Select.{selected, slots_of}
use Rattle.find_scan.specs.Show.{find_reply}
use Rattle.find_scan.specs.Rendering.{rendered}
use Rattle.find_scan.specs.declared.replies.Rendered.{Rendered}
use Rattle.find_scan.specs.declared.replies.Rendered.TheVariants.{Fits, TooBig}
use Rattle.row_insert.specs.Refusal.{refusal_of}
use Rattle.row_insert.specs.declared.drawing.Arrival.{Arrival}
use Rattle.row_insert.specs.Draw.{coming_to}
use Rattle.row_insert.specs.Insert.{new_row}
use Rattle.find_modify.specs.Change.{changed_all}
use Rattle.request_types.specs.declared.connections.ConnId.{ConnId}
use Rattle.request_types.specs.declared.batches.Item.{Item}
use Rattle.request_types.specs.declared.batches.Part.{Part}
use Rattle.request_types.specs.Ids.{same_id}
use Rattle.request_types.specs.Batches.{heads, runs_of}
use Rattle.request_types.specs.declared.batches.ItemKind.{ItemKind}
use Rattle.request_types.specs.declared.batches.ItemKind.TheVariants as kinds
use Rattle.table_rows.specs.Database.{Database, no_holding, database_of, placed_in, rows_alone}
use Rattle.batch_answers.specs.Replies.{code_reply, count_reply, insert_reply, big}

-- The rows that a find selects, each with its place.
abbrev pub chosen : Database → FindSpec → List Entry
chosen db find = selected (placed_in db) find

-- The reply that shows them.
abbrev pub rows_reply : Database → FindSpec → List ℕ
rows_reply db find = find_reply find.columns (rows_alone (chosen db find))

-- What follows where a reply fits. One that is too big is refused, and the rows stay.
abbrev pub unless_big : Rendered → Database → List ℕ × Database → List ℕ × Database
unless_big Fits db answer = answer
unless_big TooBig db answer = (code_reply big, db)

-- A find shows its rows, and they stay.
abbrev pub find_answered : Database → FindSpec → List ℕ × Database
find_answered db find = unless_big (rendered (rows_reply db find)) db (rows_reply db find, db)

-- The tables once the chosen rows are changed, one after the other, each under the place that it had at first; or
-- why one of them is refused.
abbrev pub changed : Database → FindSpec → ModSpec → Result State Code
changed db find change =
    changed_all find.table find.columns change (slots_of (chosen db find)) (placed_in db)

-- A change is answered by this reply, or by the code of the first refused row, and then the rows are as before.
abbrev pub unless_refused : Database → List ℕ → Result State Code → List ℕ × Database
unless_refused db reply (Ok state) = (reply, database_of state)
unless_refused db reply (Err code) = (code_reply (number code), db)

-- A change shows the rows from before it, if that is asked for and they fit, and else tells how many they are.
abbrev pub change_answered : Database → FindSpec → ModSpec → List ℕ × Database
change_answered db find change =
    if change.show
    then unless_big (rendered (rows_reply db find)) db (unless_refused db (rows_reply db find) (changed db find change))
    else unless_refused db (count_reply (length (chosen db find))) (changed db find change)

-- How rows compare by their cells at some columns.
abbrev pub row_cmp : List ℕ → List Value → List Value → Ordering
row_cmp columns a b = key_cmp (cells columns a) (cells columns b)

-- A table with one row more, at its place by the primary key, and with the counter above its value.
abbrev pub with_new : Database → ℕ → List Value → Database
with_new db table row = let state = placed_in db in record {
  schema = db.schema;
  bytes_max = db.bytes_max;
  tables = set db.tables table (record {
    rows = with_item (row_cmp (primary_of (indexes_of state table))) row (get_or db.tables table no_holding).rows;
    counter = raised (counted_at state table) row (get_or db.tables table no_holding).counter;
  });
}

-- A row that isn't refused comes to its table, and is answered by the number that it drew.
abbrev pub unless_barred : Database → ℕ → Arrival → Option Code → List ℕ × Database
unless_barred db table coming None = (insert_reply coming.number, with_new db table coming.row)
unless_barred db table coming (Some code) = (code_reply (number code), db)

-- A row comes to a table, or is refused since no number is left.
abbrev pub inserted : Database → ℕ → Result Arrival Code → List ℕ × Database
inserted db table (Ok coming) = unless_barred db table coming (refusal_of (placed_in db) table coming.row None)
inserted db table (Err code) = (code_reply (number code), db)

-- An insert puts a row with the values that it names and presets for all others, and with the number that it draws.
abbrev pub insert_answered : Database → InsertSpec → List ℕ × Database
insert_answered db spec = let state = placed_in db in
    inserted db spec.table (coming_to state spec.table (new_row (columns_of state spec.table) spec))

-- What a request is answered, and the rows that it leaves.
abbrev pub request_answered : Database → Request → List ℕ × Database
request_answered db (Find find) = find_answered db find
request_answered db (Modify find change) = change_answered db find change
request_answered db (Insert spec) = insert_answered db spec

-- What an item is answered, and the rows that it leaves. One that asks nothing of the tables is answered by its code.
abbrev pub answered : Database → ItemKind → List ℕ × Database
answered db (kinds.Ready code) = (code_reply code, db)
answered db (kinds.Hs request) = request_answered db request

-- What items are answered, each on the rows that the one before it left.
abbrev pub replies_to : Database → List ItemKind → List ℕ
replies_to db [] = []
replies_to db (kind ∷ kinds) = (answered db kind).0 ++ replies_to (answered db kind).1 kinds

-- The rows that items leave, one after another.
abbrev pub after_all : Database → List ItemKind → Database
after_all db [] = db
after_all db (kind ∷ kinds) = after_all (answered db kind).1 kinds

-- What each item is answered, beside its connection, on the rows that the one before it left.
abbrev pub answers : Database → List Item → List (ConnId × List ℕ)
answers db [] = []
answers db (item ∷ items) = (item.conn, (answered db item.kind).0) ∷ answers (answered db item.kind).1 items

-- The rows that the items of a batch leave.
abbrev pub after : Database → List Item → Database
after db [] = db
after db (item ∷ items) = after (answered db item.kind).1 items

-- The replies to a connection's items, one after another.
abbrev pub replies_for : ConnId → List (ConnId × List ℕ) → List ℕ
replies_for id [] = []
replies_for id (reply ∷ replies) =
    if same_id reply.0 id then reply.1 ++ replies_for id replies else replies_for id replies

-- The part of a connection: all replies to its items.
abbrev pub part_for : List (ConnId × List ℕ) → ConnId → Part
part_for replies id = record { conn = id; text = replies_for id replies }

-- A part for each connection of the batch, in the order of their items.
abbrev pub parts_for : Database → List Item → List Part
parts_for db items = map (part_for (answers db items)) (heads (runs_of items))

-- A reply is one line with its line feed.
abbrev pub IsReply : List ℕ → Type 0
IsReply reply = (line : List ℕ) × IsLine line × (reply ≡ line ++ 10 ∷ [])

-- The items of a connection.
abbrev pub items_for : ConnId → List Item → List Item
items_for id items = filter (λ item. same_id item.conn id) items

-- Replies that are as many lines as there are items, each with its line feed, and nothing else.
pub record AreLines (replies : List ℕ) (items : List Item) : Type 0 where
  pub lines : List (List ℕ)
  pub each : AllByRecursion IsLine lines
  pub count : length lines ≡ length items
  pub is : replies ≡ joined lines []
