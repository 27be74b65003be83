-- Reading an insert behind its operator: `<vlen> <v1>..<vn>`.
use Rattle.std.specs.Prelude.{ℕ, List, length, take, Result, Ok, Err, ◌==◌, if◌then◌else◌}
use Rattle.hs_token.specs.declared.tokens.Token.{Token}
use Rattle.request_types.specs.declared.ports.Port.{Port}
use Rattle.request_types.specs.declared.codes.Code.{Code}
use Rattle.request_types.specs.declared.codes.Code.TheVariants as refused
use Rattle.open_index.specs.declared.handles.Handle.{Handle}
use Rattle.request_types.specs.declared.requests.Request.{Request}
use Rattle.request_types.specs.declared.requests.Request.TheVariants.{Insert}
use Rattle.request_types.specs.Refusal.{◌>>=◌}
use Rattle.open_index.specs.Values.{values_of}
use Rattle.open_index.specs.Find.{is_reading, count_at, numbers}

-- All the tokens behind the number of values, which are as many as it says.
unfoldable pub rest_of : List Token → ℕ → Result (List Token) Code
rest_of ts n = if length ts == n then Ok ts else Err refused.Args

-- A row by values for the first opened columns. The reading port inserts nothing.
unfoldable pub insert_of : Port → Handle → List Token → Result Request Code
insert_of port h ts =
    if is_reading port then Err refused.ReadOnly
    else count_at h.columns ts >>= λ n. rest_of n.1 n.0 >>= λ tokens.
    values_of h.columns tokens >>= λ values. Ok (Insert (record {
      table = h.table;
      columns = numbers (take n.0 h.columns);
      values = values;
    }))
