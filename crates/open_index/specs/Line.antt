-- What a line means, and what becomes of it.
use Rattle.std.specs.Prelude.{ℕ, List, [], ◌∷◌, codes, Option, Some, None, Result, Ok, Err, Bool, true, not, ◌&&◌, is_some, if◌then◌else◌}
use Rattle.hs_token.specs.declared.tokens.Token.{Token}
use Rattle.hs_token.specs.Reading.{line_at}
use Rattle.request_types.specs.declared.ports.Port.{Port}
use Rattle.row_types.specs.declared.tables.Schema.{Schema}
use Rattle.request_types.specs.declared.codes.Code.{Code}
use Rattle.request_types.specs.declared.codes.Code.TheVariants as refused
use Rattle.open_index.specs.declared.handles.Handle.{Handle}
use Rattle.open_index.specs.declared.requests.Auth.{Auth}
use Rattle.request_types.specs.declared.requests.Request.{Request}
use Rattle.open_index.specs.declared.requests.Resolved.{Resolved}
use Rattle.open_index.specs.declared.requests.Resolved.TheVariants as became
use Rattle.open_index.specs.declared.meanings.Meaning.{Meaning}
use Rattle.open_index.specs.declared.meanings.Meaning.TheVariants as means
use Rattle.open_index.specs.declared.meanings.Command.{Command}
use Rattle.open_index.specs.declared.meanings.Command.TheVariants as commands
use Rattle.request_types.specs.Code.{number}
use Rattle.request_types.specs.Refusal.{◌>>=◌, or_refuse}
use Rattle.open_index.specs.Tokens.{is_word, u32_at}
use Rattle.open_index.specs.Open.{stands_for, opened, open_of}
use Rattle.open_index.specs.Find.{find_op, find_of}
use Rattle.open_index.specs.Insert.{insert_of}

-- What a line asks for, by its first token: `P`, `A` or the number of an id.
unfoldable pub command_of : Token → Result Command Code
command_of t =
    if is_word (codes "P") t then Ok commands.Open
    else if is_word (codes "A") t then Ok commands.Tell
    else or_refuse refused.Cmd (u32_at t) >>= λ id. Ok (commands.Use id)

-- `<indexid> <op> ..` behind the id: an insert under `+`, and else a find.
unfoldable pub operation_of : Port → Handle → Token → List Token → Result Request Code
operation_of port h op ts =
    if is_word (codes "+") op then insert_of port h ts
    else or_refuse refused.Op (find_op op) >>= λ o. find_of port h o ts

-- A request on an open id.
unfoldable pub request_of : Port → List (ℕ × Handle) → ℕ → List Token → Result Request Code
request_of port handles id [] = Err refused.Args
request_of port handles id (op ∷ ts) =
    or_refuse refused.NoIndex (stands_for handles id) >>= λ h. operation_of port h op ts

-- Whether a key is the secret, if there is one.
abbrev pub is_secret : Option (List ℕ) → Token → Bool
is_secret None key = true
is_secret (Some secret) key = is_word secret key

-- `A <atyp> <akey>` behind the `A`: the type is `1`, and the key is the secret of a port that has
-- one.
unfoldable pub tells : Auth → List Token → Result Meaning Code
tells auth (kind ∷ key ∷ []) =
    if not (is_word (codes "1") kind) then Err refused.Args
    else if is_secret auth.secret key then Ok means.Tells
    else Err refused.AuthKey
tells auth _ = Err refused.Args

-- Whether lines other than `A` are refused.
abbrev pub is_locked : Auth → Bool
is_locked auth = is_some auth.secret && not auth.passed

-- What a command means, from its other tokens.
unfoldable pub command_means : Schema → Port → List (ℕ × Handle) → Auth → Command →
    List Token → Result Meaning Code
command_means schema port handles auth commands.Tell ts = tells auth ts
command_means schema port handles auth commands.Open ts =
    if is_locked auth then Err refused.Unauth
    else open_of schema handles ts >>= λ o. Ok (means.Opens o.0 o.1)
command_means schema port handles auth (commands.Use id) ts =
    if is_locked auth then Err refused.Unauth
    else request_of port handles id ts >>= λ r. Ok (means.Asks r)

-- What the tokens of a line mean. Every line has one.
unfoldable pub tokens_mean : Schema → Port → List (ℕ × Handle) → Auth → List Token →
    Result Meaning Code
tokens_mean schema port handles auth [] = Err refused.Cmd
tokens_mean schema port handles auth (t ∷ ts) =
    command_of t >>= λ c. command_means schema port handles auth c ts

-- The tokens that a line spells. A line that spells none is refused.
abbrev pub spelled : Result (List Token) ℕ → Result (List Token) Code
spelled (Err place) = Err refused.Token
spelled (Ok ts) = Ok ts

-- What a line means.
unfoldable pub line_means : Schema → Port → List (ℕ × Handle) → Auth → List ℕ → Result Meaning Code
line_means schema port handles auth line =
    spelled (line_at line) >>= tokens_mean schema port handles auth

-- What becomes of a line, with the open ids and the auth behind it. A refused line changes neither.
abbrev pub becomes : List (ℕ × Handle) → Auth → Result Meaning Code →
    Resolved × List (ℕ × Handle) × Auth
becomes handles auth (Err code) = (became.Reply (number code), handles, auth)
becomes handles auth (Ok (means.Opens id handle)) = (became.Opened, opened handles id handle, auth)
becomes handles auth (Ok means.Tells) = (became.Authed, handles, record auth { passed = true })
becomes handles auth (Ok (means.Asks request)) = (became.Ask request, handles, auth)

-- Reading a line by the schema, the port, and what the connection's earlier lines left.
abbrev pub reads : Schema → Port → List (ℕ × Handle) → Auth → List ℕ →
    Resolved × List (ℕ × Handle) × Auth
reads schema port handles auth line =
    becomes handles auth (line_means schema port handles auth line)
