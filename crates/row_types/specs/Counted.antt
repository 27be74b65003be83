-- The counted column of a table: an insert that gives no number there draws the next one.
use Rattle.std.specs.Prelude.{ℕ, Bool, true, false, not, ◌&&◌, ◌||◌, List, [], ◌∷◌, Option, Some, None, slice_get}
use Rattle.std.specs.List.{list_any, position_from}
use Rattle.row_types.specs.declared.values.Value.{Value}
use Rattle.row_types.specs.declared.values.Value.TheVariants as values
use Rattle.row_types.specs.declared.columns.Kind.{Kind}
use Rattle.row_types.specs.declared.columns.Kind.TheVariants.{Int, Bytes}
use Rattle.row_types.specs.declared.columns.Column.{Column}
use Rattle.row_types.specs.declared.indexes.IndexDef.{IndexDef}

-- Its place, if there is one.
abbrev pub counted_of : List Column → Option ℕ
counted_of columns = position_from (λ (c : Column). c.auto) 0 columns

-- Whether there is one.
abbrev pub has_counted : List Column → Bool
has_counted columns = list_any (λ (c : Column). c.auto) columns

-- Whether two columns are counted, of which one alone may be.
abbrev pub both_counted : Column → Column → Bool
both_counted c d = c.auto && d.auto

-- Whether a column of this kind, this nullness and this preset may be counted.
abbrev pub counts : Kind → Bool → Value → Bool
counts Int false values.Null = true
counts Int false (values.Int n) = false
counts Int false (values.Text t) = false
counts Int true preset = false
counts (Bytes most) null preset = false

-- A counted column is of integers, forbids NULL, and has no preset but NULL.
abbrev pub may_count : Column → Bool
may_count c = not c.auto || counts c.kind c.null c.preset

-- Whether a column, if it is one, is counted.
abbrev pub counted_in : Option Column → Bool
counted_in None = false
counted_in (Some c) = c.auto

-- Whether the first of these places is that of a counted column.
abbrev pub begins_counted : List Column → List ℕ → Bool
begins_counted columns [] = false
begins_counted columns (place ∷ places) = counted_in (slice_get columns place)

-- A counted column is the first part of an index.
abbrev pub is_led : List Column → List IndexDef → Bool
is_led columns indexes = not (has_counted columns) || list_any (λ (i : IndexDef). begins_counted columns i.parts) indexes
