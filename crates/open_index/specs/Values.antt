-- The values that tokens write for columns.
use Rattle.std.specs.Prelude.{List, [], ◌∷◌, Result, Ok, Err, option_map}
use Rattle.hs_token.specs.declared.tokens.Token.{Token}
use Rattle.hs_token.specs.declared.tokens.Token.TheVariants.{Null, Text}
use Rattle.hs_token.specs.Number.{i64_of}
use Rattle.row_types.specs.declared.columns.Kind.{Kind}
use Rattle.row_types.specs.declared.columns.Kind.TheVariants as kinds
use Rattle.row_types.specs.declared.values.Value.{Value}
use Rattle.row_types.specs.declared.values.Value.TheVariants as values
use Rattle.request_types.specs.declared.codes.Code.{Code}
use Rattle.request_types.specs.declared.codes.Code.TheVariants as refused
use Rattle.open_index.specs.declared.handles.OpenColumn.{OpenColumn}
use Rattle.request_types.specs.Refusal.{◌>>=◌, or_refuse}
use Rattle.open_index.specs.Tokens.{i64_at}

-- A value for a column of this kind: NULL, or for integers the number that is written, and for
-- texts the text, however long.
unfoldable pub value_of : Kind → Token → Result Value Code
value_of kind Null = Ok values.Null
value_of kinds.Int (Text text) = or_refuse refused.Value (option_map values.Int (i64_of text))
value_of (kinds.Bytes most) (Text text) = Ok (values.Text text)

-- Values for columns by place: the first token is for the first column. Columns may be left, and
-- take no value.
unfoldable pub values_of : List OpenColumn → List Token → Result (List Value) Code
values_of columns [] = Ok []
values_of [] (t ∷ ts) = Err refused.Vlen
values_of (c ∷ cs) (t ∷ ts) = value_of c.kind t >>= λ v. values_of cs ts >>= λ vs. Ok (v ∷ vs)

-- Values of one kind.
unfoldable pub values_in : Kind → List Token → Result (List Value) Code
values_in kind [] = Ok []
values_in kind (t ∷ ts) = value_of kind t >>= λ v. values_in kind ts >>= λ vs. Ok (v ∷ vs)

-- What is added to a column of this kind, or taken off: an integer, to an integer.
unfoldable pub delta_of : Kind → Token → Result Value Code
delta_of (kinds.Bytes most) token = Err refused.Mod
delta_of kinds.Int token = or_refuse refused.Value (option_map values.Int (i64_at token))

-- What is added to columns by place.
unfoldable pub deltas_of : List OpenColumn → List Token → Result (List Value) Code
deltas_of columns [] = Ok []
deltas_of [] (t ∷ ts) = Err refused.Mod
deltas_of (c ∷ cs) (t ∷ ts) = delta_of c.kind t >>= λ v. deltas_of cs ts >>= λ vs. Ok (v ∷ vs)
