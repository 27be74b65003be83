-- Reading a find, part by part: `<vlen> <v1>..<vn> [LIM] [IN] [FILTER ..] [MOD]`.
use Rattle.std.specs.Prelude.{ℕ, zero, suc, List, [], ◌∷◌, length, map, take, codes, slice_get, Option, Some, None, Result, Ok, Err, Bool, true, false, ◌==◌, ◌||◌, nat_lt, if◌then◌else◌}
use Rattle.hs_token.specs.declared.tokens.Token.{Token}
use Rattle.request_types.specs.declared.ports.Port.{Port}
use Rattle.request_types.specs.declared.ports.Port.TheVariants as ports
use Rattle.row_types.specs.declared.values.Value.{Value}
use Rattle.request_types.specs.declared.finds.FindOp.{FindOp}
use Rattle.request_types.specs.declared.finds.FindOp.TheVariants as finds
use Rattle.request_types.specs.declared.finds.InSpec.{InSpec}
use Rattle.request_types.specs.declared.finds.FindSpec.{FindSpec}
use Rattle.request_types.specs.declared.filters.FilterOp.{FilterOp}
use Rattle.request_types.specs.declared.filters.FilterOp.TheVariants as tests
use Rattle.request_types.specs.declared.filters.FilterSpec.{FilterSpec}
use Rattle.request_types.specs.declared.mods.ModKind.{ModKind}
use Rattle.request_types.specs.declared.mods.ModKind.TheVariants as mods
use Rattle.request_types.specs.declared.mods.ModSpec.{ModSpec}
use Rattle.request_types.specs.declared.codes.Code.{Code}
use Rattle.request_types.specs.declared.codes.Code.TheVariants as refused
use Rattle.open_index.specs.declared.handles.Handle.{Handle}
use Rattle.open_index.specs.declared.handles.OpenColumn.{OpenColumn}
use Rattle.request_types.specs.declared.requests.Request.{Request}
use Rattle.request_types.specs.declared.requests.Request.TheVariants.{Find, Modify}
use Rattle.request_types.specs.Refusal.{◌>>=◌, or_refuse}
use Rattle.open_index.specs.Tokens.{is_word, u32_at, number_at, front_at}
use Rattle.open_index.specs.Values.{value_of, values_of, values_in, deltas_of}

-- Whether the next token is this text.
abbrev pub begins_with : List ℕ → List Token → Bool
begins_with word [] = false
begins_with word (t ∷ ts) = is_word word t

-- The operator of a find.
abbrev pub find_op : Token → Option FindOp
find_op t =
    if is_word (codes "=") t then Some finds.Equal
    else if is_word (codes ">") t then Some finds.Greater
    else if is_word (codes ">=") t then Some finds.GreaterEqual
    else if is_word (codes "<") t then Some finds.Less
    else if is_word (codes "<=") t then Some finds.LessEqual
    else None

-- The number of values for these columns: at least one, and no more than there are columns.
unfoldable pub count_at : List OpenColumn → List Token → Result (ℕ × List Token) Code
count_at columns ts = number_at ts >>= λ n.
    if n.0 == 0 || nat_lt (length columns) n.0 then Err refused.Vlen else Ok n

-- The key: `<vlen> <v1>..<vn>`, values for the index's first columns.
unfoldable pub key_at : List OpenColumn → List Token → Result (List Value × List Token) Code
key_at parts ts = count_at parts ts >>= λ n. front_at n.0 n.1 >>= λ front.
    values_of parts front.0 >>= λ key. Ok (key, front.1)

-- LIM: `<limit> <offset>`, where the next token is a number; else one row from the first on.
unfoldable pub limit_at : List Token → Result ((ℕ × ℕ) × List Token) Code
limit_at [] = Ok ((1, 0), [])
limit_at (t ∷ ts) = within (u32_at t) where
  within : Option ℕ → Result ((ℕ × ℕ) × List Token) Code
  within None = Ok ((1, 0), t ∷ ts)
  within (Some limit) = number_at ts >>= λ offset. Ok ((limit, offset.0), offset.1)

-- The part of the key that a list of values may stand for, under `=` alone.
unfoldable pub part_at : FindOp → List OpenColumn → ℕ → Result OpenColumn Code
part_at finds.Equal key_parts place = or_refuse refused.In (slice_get key_parts place)
part_at finds.Greater key_parts place = Err refused.In
part_at finds.GreaterEqual key_parts place = Err refused.In
part_at finds.Less key_parts place = Err refused.In
part_at finds.LessEqual key_parts place = Err refused.In

-- The number of listed values, of which there is one at least.
unfoldable pub list_len_at : List Token → Result (ℕ × List Token) Code
list_len_at ts = number_at ts >>= λ n. if n.0 == 0 then Err refused.In else Ok n

-- IN behind its `@`: `<icol> <ivlen> <iv1>..<ivn>`.
unfoldable pub list_at : FindOp → List OpenColumn → List Token → Result (InSpec × List Token) Code
list_at op key_parts ts = number_at ts >>= λ place. part_at op key_parts place.0 >>= λ part.
    list_len_at place.1 >>= λ n. front_at n.0 n.1 >>= λ front.
    values_in part.kind front.0 >>= λ values.
    Ok (record { part = place.0; values = values }, front.1)

-- IN, where the next token is `@`.
unfoldable pub within_at : FindOp → List OpenColumn → List Token →
    Result (Option InSpec × List Token) Code
within_at op key_parts [] = Ok (None, [])
within_at op key_parts (t ∷ ts) =
    if is_word (codes "@") t then
    (list_at op key_parts ts >>= λ within. Ok (Some within.0, within.1))
    else Ok (None, t ∷ ts)

-- The operator of a filter.
abbrev pub filter_op : Token → Option FilterOp
filter_op t =
    if is_word (codes "=") t then Some tests.Equal
    else if is_word (codes "!=") t then Some tests.NotEqual
    else if is_word (codes ">") t then Some tests.Greater
    else if is_word (codes ">=") t then Some tests.GreaterEqual
    else if is_word (codes "<") t then Some tests.Less
    else if is_word (codes "<=") t then Some tests.LessEqual
    else None

-- Whether a token begins a filter. A row that fails it is passed over behind `F`, and ends the
-- request behind `W`.
abbrev pub is_filter : Token → Bool
is_filter t = is_word (codes "F") t || is_word (codes "W") t

-- A filter by its tokens: the operator, the column by its place among those opened for filters, and
-- the value.
unfoldable pub filter_of : List OpenColumn → Bool → Token → Token → Token → Result FilterSpec Code
filter_of columns stop op place token = or_refuse refused.Filter (filter_op op) >>= λ o.
    or_refuse refused.Args (u32_at place) >>= λ n.
    or_refuse refused.Filter (slice_get columns n) >>= λ c.
    value_of c.kind token >>= λ v. Ok (record { stop = stop; op = o; column = c.number; value = v })

-- A filter behind its first token: `<fop> <fcol> <fval>`.
unfoldable pub filter_at : List OpenColumn → Bool → List Token →
    Result (FilterSpec × List Token) Code
filter_at columns stop (op ∷ place ∷ token ∷ ts) =
    filter_of columns stop op place token >>= λ f. Ok (f, ts)
filter_at columns stop _ = Err refused.Args

-- The next filter and what follows it, where the next token begins one.
unfoldable pub next_filter : List OpenColumn → List Token →
    Result (Option (FilterSpec × List Token)) Code
next_filter columns [] = Ok None
next_filter columns (t ∷ ts) =
    if is_filter t then (filter_at columns (is_word (codes "W") t) ts >>= λ f. Ok (Some f))
    else Ok None

-- A filter, and those that are read behind it. Without one the tokens are left.
abbrev pub then_filters : (List Token → Result (List FilterSpec × List Token) Code) →
    List Token → Option (FilterSpec × List Token) → Result (List FilterSpec × List Token) Code
then_filters more ts None = Ok ([], ts)
then_filters more ts (Some f) = more f.1 >>= λ fs. Ok (f.0 ∷ fs.0, fs.1)

-- Filters, as long as the next token begins one, but no more than so many.
unfoldable pub filters_at : ℕ → List OpenColumn → List Token →
    Result (List FilterSpec × List Token) Code
filters_at zero columns ts = Ok ([], ts)
filters_at (suc n) columns ts = next_filter columns ts >>= then_filters (filters_at n columns) ts

-- The words of a change, and whether it shows the rows.
abbrev pub mod_word : Token → Option (ModKind × Bool)
mod_word t =
    if is_word (codes "U") t then Some (mods.Update, false)
    else if is_word (codes "+") t then Some (mods.Add, false)
    else if is_word (codes "-") t then Some (mods.Subtract, false)
    else if is_word (codes "D") t then Some (mods.Remove, false)
    else if is_word (codes "U?") t then Some (mods.Update, true)
    else if is_word (codes "+?") t then Some (mods.Add, true)
    else if is_word (codes "-?") t then Some (mods.Subtract, true)
    else if is_word (codes "D?") t then Some (mods.Remove, true)
    else None

-- The values of a change, for the first opened columns. Those of a deletion aren't read.
unfoldable pub mod_values : ModKind → List OpenColumn → List Token → Result (List Value) Code
mod_values mods.Update columns ts = values_of columns ts
mod_values mods.Add columns ts = deltas_of columns ts
mod_values mods.Subtract columns ts = deltas_of columns ts
mod_values mods.Remove columns ts = Ok []

-- Whether a port is for finds alone.
abbrev pub is_reading : Port → Bool
is_reading ports.Reading = true
is_reading ports.Writing = false
is_reading ports.Sql = false

-- MOD behind its word: all the tokens that are left are its values. The reading port changes
-- nothing.
unfoldable pub change_of : Port → List OpenColumn → ModKind × Bool → List Token →
    Result ModSpec Code
change_of port columns word ts =
    if is_reading port then Err refused.ReadOnly
    else if nat_lt (length columns) (length ts) then Err refused.Mod
    else mod_values word.0 columns ts >>= λ values.
    Ok (record { kind = word.0; values = values; show = word.1 })

-- MOD, if a token is left. A token that begins no part of a line is refused.
unfoldable pub mod_of : Port → List OpenColumn → List Token → Result (Option ModSpec) Code
mod_of port columns [] = Ok None
mod_of port columns (t ∷ ts) = or_refuse refused.Args (mod_word t) >>= λ word.
    change_of port columns word ts >>= λ change. Ok (Some change)

-- A find, or a change of the rows that it selects.
abbrev pub asked : FindSpec → Option ModSpec → Request
asked find None = Find find
asked find (Some change) = Modify find change

-- The numbers of columns.
abbrev pub numbers : List OpenColumn → List ℕ
numbers columns = map (λ (c : OpenColumn). c.number) columns

-- The find that its parts make, on what the id stands for.
abbrev pub found_by : Handle → FindOp → List Value → ℕ × ℕ → Option InSpec →
    List FilterSpec → FindSpec
found_by h op key limit within filters = record {
  table = h.table;
  index = h.index;
  op = op;
  key = key;
  within = within;
  limit = limit.0;
  offset = limit.1;
  filters = filters;
  columns = numbers h.columns;
}

-- The parts of a find, from left to right.
unfoldable pub find_of : Port → Handle → FindOp → List Token → Result Request Code
find_of port h op ts = key_at h.parts ts >>= λ key. limit_at key.1 >>= λ limit.
    within_at op (take (length key.0) h.parts) limit.1 >>= λ within.
    filters_at (length within.1) h.filter_columns within.1 >>= λ filters.
    mod_of port h.columns filters.1 >>= λ change.
    Ok (asked (found_by h op key.0 limit.0 within.0 filters.0) change)
