-- What requests are answered, over tables of which each row is in a slot.
--     reply_shown, slots_chosen, count_chosen      the rows that a find selects
--     insert_answer      an insert
--     change_answer      a change
use Rattle.std.proofs.Common.{◌≡◌, ◌≢◌, ℕ, ℤ, ◌<◌, Bool, true, false, cond, IfOk, List, [], ◌∷◌, map, length, set, Option, Some, None, Result, Ok, Err, refl, ap, ap₂, sym, subst, ◌∙◌}
use Rattle.std.specs.List.{AllByRecursion}
use Rattle.std.proofs.lemmas.List.{map-set, length-map, get_or-map}
use Rattle.index_tree.specs.Ordered.{with_item}
use Rattle.index_tree.proofs.Elements.{each_member}
use Rattle.index_tree.proofs.InOrder.{all_in_order}
use Rattle.row_types.specs.declared.values.Value.{Value}
use Rattle.table_rows.specs.Entries.{Entry, entry_cmp}
use Rattle.request_types.specs.declared.finds.FindSpec.{FindSpec}
use Rattle.request_types.specs.declared.mods.ModSpec.{ModSpec}
use Rattle.request_types.specs.declared.codes.Code.{Code}
use Rattle.request_types.specs.Code.{number}
use Rattle.request_types.specs.declared.inserts.InsertSpec.{InsertSpec}
use Rattle.table_rows.specs.declared.slot_ref.SlotRef.{SlotRef}
use Rattle.table_rows.specs.declared.undo.Undo.{Undo}
use Rattle.table_rows.specs.Rows.{State, no_rows, columns_of, indexes_of, entries_of, counted_at, counter_of}
use Rattle.table_rows.specs.Counters.{raised}
use Rattle.table_rows.specs.Indexes.{primary_of}
use Rattle.table_rows.specs.Slots.{is_live, row_at, with_row, with_row_at}
use Rattle.table_rows.specs.Valid.{IsValidState}
use Rattle.table_rows.specs.Widths.{with_slots}
use Rattle.table_rows.proofs.BySlot.{row_of_member, without_free}
use Rattle.table_rows.proofs.States.{rows_valid}
use Rattle.table_rows.proofs.Roomier.{widened_roomier}
use Rattle.table_rows.proofs.Wider.{slots_widened}
use Rattle.find_scan.specs.Select.{columns_for, selected, slots_of}
use Rattle.find_scan.specs.Show.{find_reply}
use Rattle.find_scan.specs.Rendering.{rows_at, rendered}
use Rattle.find_scan.specs.declared.replies.Rendered.{Rendered}
use Rattle.find_scan.specs.declared.replies.Rendered.TheVariants.{Fits, TooBig}
use Rattle.find_scan.proofs.Chosen.{all_selected}
use Rattle.row_insert.specs.declared.inserts.Inserted.{Inserted}
use Rattle.row_insert.specs.declared.inserts.Inserted.TheVariants as inserted
use Rattle.row_insert.specs.Refusal.{refusal_of}
use Rattle.row_insert.specs.Insert.{new_row, answer_to, insert_answer, IsPut}
use Rattle.row_insert.specs.declared.drawing.Arrival.{Arrival}
use Rattle.row_insert.specs.Draw.{coming, coming_to}
use Rattle.row_insert.proofs.Widened.{within_widened}
use Rattle.find_modify.specs.declared.modifies.Modified.{Modified}
use Rattle.find_modify.specs.declared.modifies.Modified.TheVariants as modified
use Rattle.find_modify.specs.Change.{changed_all}
use Rattle.find_modify.specs.Change as modify
use Rattle.find_modify.proofs.CellKinds.{ok_is}
use Rattle.table_rows.specs.Database.{Database, Holding, no_holding, rows_alone, holding_in, database_of, placed, placed_in}
use Rattle.batch_answers.specs.Replies.{code_reply, count_reply, insert_reply}
use Rattle.batch_answers.specs.Answers.{chosen, rows_reply, changed, unless_big, unless_refused, row_cmp, with_new, unless_barred, inserted as inserted_by, insert_answered, change_answered}
use Rattle.batch_answers.specs.Steps.{reply_of}
use Rattle.table_rows.proofs.Alone.{roomier_same}
use Rattle.batch_answers.proofs.Moved.{all_moved, alone_moved, put_alone}
use Rattle.batch_answers.proofs.Chosen.{selected_moved}
use Rattle.batch_answers.proofs.Changed.{moved_slot, Same, counter_same, none_same, all_same}
use Rattle.batch_answers.proofs.Named.{naming, apart_naming, named_tables}

slots_moved : (f : ℕ → ℕ) (entries : List Entry) → slots_of (all_moved f entries) ≡ map (moved_slot f) (slots_of entries)
slots_moved f [] = refl
slots_moved f (e ∷ es) = ap (λ (slots : List SlotRef). record { 0 = f e.1 } ∷ slots) (slots_moved f es)

module _ (state : State) (table : ℕ) where
  -- the entry's row is the one in its slot
  abbrev HasRow : Entry → Type 0
  HasRow entry = row_at state table entry.1 ≡ entry.0

  read : (entries : List Entry) → AllByRecursion HasRow entries → rows_at state table (slots_of entries) ≡ rows_alone entries
  read [] all = refl
  read (e ∷ es) all = ap₂ (λ (row : List Value) (rows : List (List Value)). row ∷ rows) all.0 (read es all.1)

module _ (state : State) (valid : IsValidState state) (spec : FindSpec) (below : spec.table < length state.tables) where
  chosen_moved : selected state spec ≡ all_moved (naming state valid spec.table below) (chosen (database_of state) spec)
  chosen_moved =
      selected_moved (naming state valid spec.table below) state.schema state.bytes_max state.tables (map placed (map holding_in state.tables)) spec
      (named_tables state valid spec.table below).entries

  have_rows : AllByRecursion (HasRow state spec.table) (selected state spec)
  have_rows =
      let here = entries_of state spec.table in
      let own = (rows_valid state valid spec.table below).apart in
      all_selected (HasRow state spec.table) state spec
      (all_in_order (entry_cmp (columns_for state spec)) (HasRow state spec.table) here (each_member (HasRow state spec.table) here (λ e inside. row_of_member here e own inside)))

  rows_chosen : rows_at state spec.table (slots_of (selected state spec)) ≡ rows_alone (chosen (database_of state) spec)
  rows_chosen =
      read state spec.table (selected state spec) have_rows
      ∙ ap rows_alone chosen_moved
      ∙ alone_moved (naming state valid spec.table below) (chosen (database_of state) spec)

  -- the reply shows the rows that are selected, whatever their slots
  pub reply_shown : find_reply spec.columns (rows_at state spec.table (slots_of (selected state spec))) ≡ rows_reply (database_of state) spec
  reply_shown = ap (find_reply spec.columns) rows_chosen

  pub slots_chosen : slots_of (selected state spec) ≡ map (moved_slot (naming state valid spec.table below)) (slots_of (chosen (database_of state) spec))
  slots_chosen = ap slots_of chosen_moved ∙ slots_moved (naming state valid spec.table below) (chosen (database_of state) spec)

  pub count_chosen : length (slots_of (selected state spec)) ≡ length (chosen (database_of state) spec)
  count_chosen =
      ap length slots_chosen ∙ length-map (slots_of (chosen (database_of state) spec)) (moved_slot (naming state valid spec.table below))
      ∙ length-map (chosen (database_of state) spec) (λ (e : Entry). record { 0 = e.1 })

-- a row comes to its place whatever its slot
put_new : (state : State) (table : ℕ) (slot : ℕ) (row : List Value) → table < length state.tables → is_live slot (entries_of state table) ≡ false → database_of (with_row_at state table slot row) ≡ with_new (database_of state) table row
put_new state table slot row below free =
    let columns = primary_of (indexes_of state table) in
    let here = entries_of state table in
    let after = raised (counted_at state table) row (counter_of state table) in
    let come : rows_alone (with_row (indexes_of state table) slot row here) ≡ with_item (row_cmp columns) row (rows_alone here) =
    ap (λ (es : List Entry). rows_alone (with_item (entry_cmp columns) (row, slot) es)) (without_free slot here free) ∙ put_alone columns row slot here in
    ap (λ (tables : List Holding). record { schema = state.schema; bytes_max = state.bytes_max; tables = tables })
    (map-set holding_in state.tables table _
    ∙ ap (λ (rows : List (List Value)). set (map holding_in state.tables) table (record { rows = rows; counter = after })) come
    ∙ ap (λ (holding : Holding). set (map holding_in state.tables) table (record { rows = with_item (row_cmp columns) row holding.rows; counter = raised (counted_at state table) row holding.counter }))
    (sym (get_or-map holding_in state.tables table no_rows no_holding below)))

put_database : (before after : State) (table : ℕ) (asked : List Value) (number : Option ℤ) (undos more : List Undo) → table < length before.tables → (put : IsPut table asked number before after undos more) → database_of after ≡ with_new (database_of before) table put.row
put_database before after table asked number undos more below put =
    let between = with_slots before table 1 in
    let wide = slots_widened before table below 1 in
    ap database_of put.put
    ∙ put_new between table put.slot put.row (within_widened before between table below wide) put.vacant.free
    ∙ ap (λ (db : Database). with_new db table put.row) (roomier_same before between (widened_roomier table before between wide))

same_database : (before after : State) (table : ℕ) (undos more : List Undo) → (after ≡ before) × (more ≡ undos) → database_of after ≡ database_of before
same_database before after table undos more same = ap database_of same.0

-- something that is there
abbrev fine : {A E : Type 0} → A → Result A E
fine x = Ok x

ok_same : {A E : Type 0} (x y : A) → fine {A = A} {E = E} x ≡ fine y → x ≡ y
ok_same x y same = cc

-- the reply that an insert is answered by
abbrev pub reply_to : Inserted → List ℕ
reply_to (inserted.Done number) = insert_reply number
reply_to (inserted.Refused code) = code_reply code

module _ (state after : State) (valid : IsValidState state) (table : ℕ) (asked : List Value) (below : table < length state.tables) (undos more : List Undo) where
  -- what is known of an answer
  abbrev PutBy : Inserted → Type 0
  PutBy answer = (number : Option ℤ) → answer ≡ inserted.Done number → IsPut table asked number state after undos more

  abbrev SameBy : Inserted → Type 0
  SameBy answer = ((number : Option ℤ) → answer ≢ inserted.Done number) → (after ≡ state) × (more ≡ undos)

  row_came : (come : Arrival) (row : List Value) → coming_to state table asked ≡ Ok come → coming_to state table asked ≡ Ok (record { row = row; number = come.number }) → row ≡ come.row
  row_came come row first second = ap (λ (c : Arrival). c.row) (came (record { row = row; number = come.number }) come (sym second ∙ first))
    where
      came : (a b : Arrival) → (let r : Result Arrival Code = Ok a in r) ≡ Ok b → a ≡ b
      came a b is = cc

  refused_is : (code : ℕ) (answer : Inserted) → answer ≡ inserted.Refused code → SameBy answer → (let pair : List ℕ × Database = (code_reply code, database_of state) in pair) ≡ (reply_to answer, database_of after)
  refused_is code answer is same =
      ap₂ (λ (reply : List ℕ) (db : Database). (reply, db)) (ap reply_to (sym is))
      (sym (same_database state after table undos more (same (λ number done. refused number (sym done ∙ is)))))
    where
      refused : (number : Option ℤ) → inserted.Done number ≡ inserted.Refused code → ⊥
      refused number is = cc

  by_refusal : (come : Arrival) (refusal : Option Code) (answer : Inserted) → coming_to state table asked ≡ Ok come → answer ≡ answer_to come.number refusal → PutBy answer → SameBy answer → unless_barred (database_of state) table come refusal ≡ (reply_to answer, database_of after)
  by_refusal come None answer comes is put same =
      let there = put come.number is in
      ap₂ (λ (reply : List ℕ) (db : Database). (reply, db)) (ap reply_to (sym is))
      (ap (with_new (database_of state) table) (sym (row_came come there.row comes there.comes)) ∙ sym (put_database state after table asked come.number undos more below there))
  by_refusal come (Some code) answer comes is put same = refused_is (number code) answer is same

  by_coming : (made : Result Arrival Code) (answer : Inserted) → coming_to state table asked ≡ made → answer ≡ insert_answer state table made → PutBy answer → SameBy answer → inserted_by (database_of state) table made ≡ (reply_to answer, database_of after)
  by_coming (Err code) answer comes is put same = refused_is (number code) answer is same
  by_coming (Ok come) answer comes is put same =
      ap (unless_barred (database_of state) table come)
      (sym (none_same (naming state valid table below) (apart_naming state valid table below) state.schema state.bytes_max table state.tables (map placed (map holding_in state.tables)) (named_tables state valid table below) come.row))
      ∙ by_refusal come (refusal_of state table come.row None) answer comes is put same

  -- the same row comes without slots
  coming_placed : coming_to (placed_in (database_of state)) table asked ≡ coming_to state table asked
  coming_placed =
      ap (λ (counter : ℕ). coming (counted_at state table) counter asked)
      (sym (counter_same (naming state valid table below) table state.tables (map placed (map holding_in state.tables)) (named_tables state valid table below)))

  -- an insert is answered as it is without slots
  pub insert_answer_is : (answer : Inserted) → answer ≡ insert_answer state table (coming_to state table asked) → PutBy answer → SameBy answer → inserted_by (database_of state) table (coming_to (placed_in (database_of state)) table asked) ≡ (reply_to answer, database_of after)
  insert_answer_is answer is put same =
      ap (inserted_by (database_of state) table) coming_placed ∙ by_coming (coming_to state table asked) answer refl is put same

-- the same by the result of the call
pub insert_is : {E : Type 0} (state after : State) (valid : IsValidState state) (spec : InsertSpec) → spec.table < length state.tables → (undos more : List Undo) (result : Result Inserted E) (answer : Inserted) → result ≡ Ok answer → answer ≡ insert_answer state spec.table (coming_to state spec.table (new_row (columns_of state spec.table) spec)) → ((number : Option ℤ) → result ≡ Ok (inserted.Done number) → IsPut spec.table (new_row (columns_of state spec.table) spec) number state after undos more) → (((number : Option ℤ) → result ≢ Ok (inserted.Done number)) → (after ≡ state) × (more ≡ undos)) → insert_answered (database_of state) spec ≡ (reply_to answer, database_of after)
insert_is state after valid spec below undos more result answer ok is put same =
    insert_answer_is state after valid spec.table (new_row (columns_of state spec.table) spec) below undos more answer is
    (λ number done. put number (ok ∙ ap Ok done)) (λ other. same (λ number e. other number (ok_same answer (inserted.Done number) (sym ok ∙ e))))

module _ (state after : State) (valid : IsValidState state) (find : FindSpec) (change : ModSpec) (below : find.table < length state.tables) (undos more : List Undo) where
  abbrev made : Result State Code
  made = changed_all find.table find.columns change (slots_of (selected state find)) state

  abbrev alike : Result State Code → Result State Code → Type 0
  alike = Same (naming state valid find.table below) (apart_naming state valid find.table below) state.schema state.bytes_max find.table

  made_alike : alike made (changed (database_of state) find change)
  made_alike =
      subst (λ (slots : List SlotRef). alike (changed_all find.table find.columns change slots state) (changed (database_of state) find change))
      (sym (slots_chosen state valid find below))
      (all_same (naming state valid find.table below) (apart_naming state valid find.table below) state.schema state.bytes_max find.table find.columns change
      (slots_of (chosen (database_of state) find)) state.tables (map placed (map holding_in state.tables)) (named_tables state valid find.table below))

  by_made : (r q : Result State Code) → alike r q → (answer : Modified) → answer ≡ modify.answer_to (slots_of (selected state find)) r → ((count : ℕ) → answer ≡ modified.Done count → r ≡ Ok after) → (((count : ℕ) → answer ≢ modified.Done count) → (after ≡ state) × (more ≡ undos)) → (reply : List ℕ) → unless_refused (database_of state) reply q ≡ (reply_of reply answer, database_of after)
  by_made (Ok s) (Ok c) (ts, us, here, there, same) answer is done unchanged reply =
      let d = done (length (slots_of (selected state find))) is in
      let rows : database_of after ≡ database_of c =
      ap database_of (sym (ok_is s after d) ∙ here)
      ∙ ap (λ (tables : List Holding). record { schema = state.schema; bytes_max = state.bytes_max; tables = tables }) same.alone
      ∙ ap database_of (sym there) in
      ap₂ (λ (r : List ℕ) (db : Database). (r, db)) (ap (reply_of reply) (sym is)) (sym rows)
  by_made (Ok s) (Err b) same answer is done unchanged reply = absurd same
  by_made (Err a) (Ok c) same answer is done unchanged reply = absurd same
  by_made (Err a) (Err b) same answer is done unchanged reply =
      ap₂ (λ (r : List ℕ) (db : Database). (r, db)) (ap (λ (code : Code). code_reply (number code)) (sym same) ∙ ap (reply_of reply) (sym is))
      (sym (same_database state after find.table undos more (unchanged (λ count counted. refused count (sym counted ∙ is)))))
    where
      refused : (count : ℕ) → modified.Done count ≡ modified.Refused (number a) → ⊥
      refused count is = cc

  -- a change is answered as it is without slots
  pub change_answer : (answer : Modified) → answer ≡ modify.answer_to (slots_of (selected state find)) made → ((count : ℕ) → answer ≡ modified.Done count → made ≡ Ok after) → (((count : ℕ) → answer ≢ modified.Done count) → (after ≡ state) × (more ≡ undos)) → (reply : List ℕ) → unless_refused (database_of state) reply (changed (database_of state) find change) ≡ (reply_of reply answer, database_of after)
  change_answer = by_made made (changed (database_of state) find change) made_alike

-- the reply that a find shows, where it fits and where it is too big
pub fits_then : (db : Database) (find : FindSpec) (answer : List ℕ × Database) (reply : List ℕ) → reply ≡ rows_reply db find → Fits ≡ rendered reply → unless_big (rendered (rows_reply db find)) db answer ≡ answer
fits_then db find answer reply same size = ap (λ (r : Rendered). unless_big r db answer) (sym (size ∙ ap rendered same))

pub big_then : (db : Database) (find : FindSpec) (answer : List ℕ × Database) (reply : List ℕ) → reply ≡ rows_reply db find → TooBig ≡ rendered reply → unless_big (rendered (rows_reply db find)) db answer ≡ (code_reply 20, db)
big_then db find answer reply same size = ap (λ (r : Rendered). unless_big r db answer) (sym (size ∙ ap rendered same))

-- what the tables showed is that reply
pub reply_is : (state : State) (valid : IsValidState state) (spec : FindSpec) → spec.table < length state.tables → (columns : List ℕ) (slots : List SlotRef) → columns ≡ spec.columns → slots ≡ slots_of (selected state spec) → find_reply columns (rows_at state spec.table slots) ≡ rows_reply (database_of state) spec
reply_is state valid spec below columns slots first second =
    ap₂ (λ (cs : List ℕ) (ss : List SlotRef). find_reply cs (rows_at state spec.table ss)) first second ∙ reply_shown state valid spec below

-- what came of a change, as the tables tell it
module _ {E : Type 0} (state after : State) (valid : IsValidState state) (find : FindSpec) (change : ModSpec) (below : find.table < length state.tables) (undos more : List Undo) (result : Result Modified E) where
  abbrev pub MadeBy : List ℕ × List SlotRef → Type 0
  MadeBy by = IfOk result (λ answer. answer ≡ modify.answer_to by.1 (changed_all find.table by.0 change by.1 state))

  abbrev pub DoneBy : List ℕ × List SlotRef → Type 0
  DoneBy by = (count : ℕ) → result ≡ Ok (modified.Done count) → changed_all find.table by.0 change by.1 state ≡ Ok after

  abbrev pub IsAnswered : Type 0
  IsAnswered = IfOk result (λ answer. (reply : List ℕ) → unless_refused (database_of state) reply (changed (database_of state) find change) ≡ (reply_of reply answer, database_of after))

made_here : {E : Type 0} (state after : State) (valid : IsValidState state) (find : FindSpec) (change : ModSpec) (below : find.table < length state.tables) (undos more : List Undo) (result : Result Modified E) → MadeBy state after valid find change below undos more result (find.columns, slots_of (selected state find)) → DoneBy state after valid find change below undos more result (find.columns, slots_of (selected state find)) → (((count : ℕ) → result ≢ Ok (modified.Done count)) → (after ≡ state) × (more ≡ undos)) → IsAnswered state after valid find change below undos more result
made_here state after valid find change below undos more (Ok answer) is done unchanged =
    change_answer state after valid find change below undos more answer is (λ count e. done count (ap Ok e)) (λ never. unchanged (λ count e. never count (ok_same answer (modified.Done count) e)))
made_here state after valid find change below undos more (Err error) is done unchanged = tt

pub made_is : {E : Type 0} (state after : State) (valid : IsValidState state) (find : FindSpec) (change : ModSpec) (below : find.table < length state.tables) (undos more : List Undo) (result : Result Modified E) (columns : List ℕ) (slots : List SlotRef) → columns ≡ find.columns → slots ≡ slots_of (selected state find) → MadeBy state after valid find change below undos more result (columns, slots) → DoneBy state after valid find change below undos more result (columns, slots) → (((count : ℕ) → result ≢ Ok (modified.Done count)) → (after ≡ state) × (more ≡ undos)) → IsAnswered state after valid find change below undos more result
made_is state after valid find change below undos more result columns slots first second is done unchanged =
    let by : (columns, slots) ≡ (find.columns, slots_of (selected state find)) = ap₂ (λ (cs : List ℕ) (ss : List SlotRef). (cs, ss)) first second in
    made_here state after valid find change below undos more result
    (subst (MadeBy state after valid find change below undos more result) by is) (subst (DoneBy state after valid find change below undos more result) by done) unchanged

-- how many rows it says were changed
counted_by : (slots : List SlotRef) (made : Result State Code) (count : ℕ) → modified.Done count ≡ modify.answer_to slots made → count ≡ length slots
counted_by slots (Ok state) count is = cc
counted_by slots (Err code) count is = absurd cc

pub count_is : {E : Type 0} (slots : List SlotRef) (made : Result State Code) (result : Result Modified E) → IfOk result (λ answer. answer ≡ modify.answer_to slots made) → (count : ℕ) → result ≡ Ok (modified.Done count) → count ≡ length slots
count_is {E} slots made result is count ok =
    counted_by slots made count (subst (λ (r : Result Modified E). IfOk r (λ answer. answer ≡ modify.answer_to slots made)) ok is)

-- what a change answers that shows its rows
module _ (db : Database) (find : FindSpec) (change : ModSpec) (shows : change.show ≡ true) (reply : List ℕ) (same : reply ≡ rows_reply db find) where
  shows_then : change_answered db find change ≡ unless_big (rendered (rows_reply db find)) db (unless_refused db (rows_reply db find) (changed db find change))
  shows_then = ap (λ (b : Bool). cond b (unless_big (rendered (rows_reply db find)) db (unless_refused db (rows_reply db find) (changed db find change))) (unless_refused db (count_reply (length (chosen db find))) (changed db find change))) shows

  pub shown_answer : (answer : Modified) (after : Database) → Fits ≡ rendered reply → ((text : List ℕ) → unless_refused db text (changed db find change) ≡ (reply_of text answer, after)) → change_answered db find change ≡ (reply_of reply answer, after)
  shown_answer answer after size made =
      shows_then ∙ fits_then db find _ reply same size ∙ made (rows_reply db find)
      ∙ ap (λ (text : List ℕ). (reply_of text answer, after)) (sym same)

  pub big_answer : TooBig ≡ rendered reply → change_answered db find change ≡ (code_reply 20, db)
  big_answer size = shows_then ∙ big_then db find _ reply same size
