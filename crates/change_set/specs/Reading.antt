-- What bytes say, from left to right.
use Rattle.std.specs.Prelude.{◌≡◌, ℕ, zero, suc, ◌-◌, Bool, true, ◌&&◌, ◌==◌, nat_lt, if◌then◌else◌, List, [], ◌∷◌, length, take, drop, Option, Some, None, Result, Ok, Err}
use Rattle.std.specs.Int.{Width, w16, w32, w64, byte_len, from_be_bytes, cast_signed}
use Rattle.std.specs.Ordering.{is_lt}
use Rattle.row_types.specs.declared.values.Value.{Value}
use Rattle.row_types.specs.declared.values.Value.TheVariants as values
use Rattle.row_types.specs.declared.columns.Column.{Column}
use Rattle.row_types.specs.declared.columns.Fit.{Fit}
use Rattle.row_types.specs.declared.columns.Fit.TheVariants as fits
use Rattle.row_types.specs.declared.tables.Schema.{Schema}
use Rattle.row_types.specs.Fit.{fit_of}
use Rattle.change_set.specs.declared.change.Change.{Change}
use Rattle.change_set.specs.declared.change.Change.TheVariants.{Put, Delete, Count}
use Rattle.change_set.specs.declared.form.Form.{Form}
use Rattle.change_set.specs.declared.form.Form.TheVariants as forms
use Rattle.change_set.specs.declared.fault.Fault.{Fault}
use Rattle.change_set.specs.declared.fault.Fault.TheVariants as faults
use Rattle.change_set.specs.declared.damage.Damage.{Damage}
use Rattle.change_set.specs.declared.damage.Damage.TheVariants as damage
use Rattle.change_set.specs.Sets.{def_in, key_columns, change_cmp}
use Rattle.change_set.specs.Fitting.{columns_at}
use Rattle.change_set.specs.Forms.{may_have, may_count}

-- The next field is read where the one before it was.
infixl 10 ◌>>=◌
abbrev pub ◌>>=◌ : {A B : Type 0} → Option A → (A → Option B) → Option B
(Some x) >>= f = f x
None >>= f = None

-- What a function returned, seen by view, is what reading gives, unless memory ran out.
abbrev pub Fails : {Y : Type 0} → Fault → Option Y → Type 0
Fails faults.NoMemory read = Unit {0}
Fails faults.Unreadable read = read ≡ None

abbrev pub Gives : {X Y : Type 0} → (X → Y) → Result X Fault → Option Y → Type 0
Gives view (Ok x) read = read ≡ Some (view x)
Gives view (Err e) read = Fails e read

-- A number, and the bytes that follow it.
abbrev pub number_at : Width → List ℕ → Option (ℕ × List ℕ)
number_at w bytes =
    if nat_lt (length bytes) (byte_len w) then None
    else Some (from_be_bytes w (take (byte_len w) bytes), drop (byte_len w) bytes)

-- A text behind its length.
unfoldable pub text_at : List ℕ → Option (List ℕ × List ℕ)
text_at bytes = do
  n ← number_at w32 bytes
  if nat_lt (length n.1) n.0 then None else Some (take n.0 n.1, drop n.0 n.1)

-- A value behind its kind.
unfoldable pub value_at : List ℕ → Option (Value × List ℕ)
value_at [] = None
value_at (zero ∷ rest) = Some (values.Null, rest)
value_at (suc zero ∷ rest) = do
  n ← number_at w64 rest
  Some (values.Int (cast_signed w64 n.0), n.1)
value_at (suc (suc zero) ∷ rest) = do
  t ← text_at rest
  Some (values.Text t.0, t.1)
value_at (suc (suc (suc b)) ∷ rest) = None

-- What goes on where a column holds a value.
abbrev pub if_fine : {X : Type 0} → Fit → X → Option X
if_fine fits.Fine x = Some x
if_fine fits.WrongKind x = None
if_fine fits.Long x = None
if_fine fits.NullHere x = None

-- A value that this column holds.
unfoldable pub cell_at : Column → List ℕ → Option (Value × List ℕ)
cell_at column bytes = do
  v ← value_at bytes
  if_fine (fit_of column v.0) v

-- A value for each of these columns.
unfoldable pub cells_at : List Column → List ℕ → Option (List Value × List ℕ)
cells_at [] bytes = Some ([], bytes)
cells_at (column ∷ columns) bytes = do
  first ← cell_at column bytes
  others ← cells_at columns first.1
  Some (first.0 ∷ others.0, others.1)

-- The number of a table of the schema.
unfoldable pub table_at : Schema → List ℕ → Option (ℕ × List ℕ)
table_at schema bytes = do
  n ← number_at w16 bytes
  if nat_lt n.0 (length schema.tables) then Some n else None

-- A row for a table.
unfoldable pub put_at : Schema → List ℕ → Option (Change × List ℕ)
put_at schema bytes = do
  t ← table_at schema bytes
  row ← cells_at (def_in schema t.0).columns t.1
  Some (Put t.0 row.0, row.1)

-- A primary key of a table.
unfoldable pub delete_at : Schema → List ℕ → Option (Change × List ℕ)
delete_at schema bytes = do
  t ← table_at schema bytes
  key ← cells_at (columns_at (def_in schema t.0).columns (key_columns schema t.0)) t.1
  Some (Delete t.0 key.0, key.1)

-- A counter of a table.
unfoldable pub count_at : Schema → List ℕ → Option (Change × List ℕ)
count_at schema bytes = do
  t ← table_at schema bytes
  n ← number_at w64 t.1
  Some (Count t.0 n.0, n.1)

-- A change behind its kind.
unfoldable pub change_at : Schema → List ℕ → Option (Change × List ℕ)
change_at schema [] = None
change_at schema (zero ∷ rest) = None
change_at schema (suc zero ∷ rest) = put_at schema rest
change_at schema (suc (suc zero) ∷ rest) = delete_at schema rest
change_at schema (suc (suc (suc zero)) ∷ rest) = count_at schema rest
change_at schema (suc (suc (suc (suc b))) ∷ rest) = None

-- Whether a change stands behind the one before it, if there is one.
abbrev pub is_behind : Schema → Option Change → Change → Bool
is_behind schema None change = true
is_behind schema (Some last) change = is_lt (change_cmp schema last change)

-- A change that may stand there, behind the one before it.
unfoldable pub next_at : Form → Schema → Option Change → List ℕ → Option (Change × List ℕ)
next_at form schema last bytes = do
  c ← change_at schema bytes
  if is_behind schema last c.0 && may_have form c.0 then Some c else None

-- What is read of the changes behind one, if that is read, and else its place.
abbrev pub then_at : ℕ → Option (Change × List ℕ) → (Change × List ℕ → Result (List Change × List ℕ) ℕ) → Result (List Change × List ℕ) ℕ
then_at place None next = Err place
then_at place (Some c) next = next c

-- A change before those that were read.
abbrev pub with_first : Change → Result (List Change × List ℕ) ℕ → Result (List Change × List ℕ) ℕ
with_first change (Ok x) = Ok (change ∷ x.0, x.1)
with_first change (Err place) = Err place

-- So many changes, each behind the one before it, and the bytes that follow them; or the place of the first that is
-- none, where the bytes end at this one.
unfoldable pub changes_at : Form → Schema → ℕ → ℕ → Option Change → List ℕ → Result (List Change × List ℕ) ℕ
changes_at form schema end zero last bytes = Ok ([], bytes)
changes_at form schema end (suc n) last bytes =
    then_at (end - length bytes) (next_at form schema last bytes)
    (λ c. with_first c.0 (changes_at form schema end n (Some c.0) c.1))

-- Changes with no byte behind them, and else the place of the fault.
abbrev pub whole : ℕ → Result (List Change × List ℕ) ℕ → Result (List Change) ℕ
whole end (Err place) = Err place
whole end (Ok x) = if length x.1 == 0 then Ok x.0 else Err (end - length x.1)

-- The changes behind their number.
abbrev pub counted_at : Form → Schema → ℕ → Option (ℕ × List ℕ) → Result (List Change) ℕ
counted_at form schema end None = Err 0
counted_at form schema end (Some n) =
    if may_count form n.0 then whole end (changes_at form schema end n.0 None n.1) else Err 0

-- The set of this form that bytes spell, or the place of the first fault.
abbrev pub set_in : Form → Schema → List ℕ → Result (List Change) ℕ
set_in form schema bytes = counted_at form schema (length bytes) (number_at w32 bytes)

-- The set that bytes are the payload of.
abbrev pub set_of : Schema → List ℕ → Result (List Change) ℕ
set_of schema bytes = set_in forms.Payload schema bytes

-- The set that they are the area of.
abbrev pub area_set : Schema → List ℕ → Result (List Change) ℕ
area_set schema bytes = set_in forms.Area schema bytes

-- It is for this reason that reading gives nothing, unless memory ran out.
abbrev pub AnswersNo : {Y : Type 0} → Damage → Result Y ℕ → Type 0
AnswersNo (damage.Bad place) read = read ≡ Err place
AnswersNo damage.NoMemory read = Unit {0}

-- A reader answers what reading gives, seen by view, unless memory ran out.
abbrev pub Answers : {X Y : Type 0} → (X → Y) → Result X Damage → Result Y ℕ → Type 0
Answers view (Ok x) read = read ≡ Ok (view x)
Answers view (Err e) read = AnswersNo e read

-- A fault of a field at this place.
abbrev pub damage_at : ℕ → Fault → Damage
damage_at place faults.Unreadable = damage.Bad place
damage_at place faults.NoMemory = damage.NoMemory
