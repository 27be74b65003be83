-- The numbers of the refusals, and their texts.
use Rattle.std.specs.Prelude.{ℕ, List, [], ◌∷◌, Option, Some, None, ◌==◌, codes, if◌then◌else◌}
use Rattle.request_types.specs.declared.codes.Code.{Code}
use Rattle.request_types.specs.declared.codes.Code.TheVariants.{Cmd, Args, Unauth, Token, NoIndex, Table, Index, Column, ReadOnly, Op, Vlen, In, Filter, Mod, Value, Dup, Null, Range, Full, Big, Ids, AuthKey, Syntax, Name, WrongKind}

-- The number that the reply to what is refused begins with.
abbrev pub number : Code → ℕ
number Cmd = 1
number Args = 2
number Unauth = 3
number Token = 4
number NoIndex = 5
number Table = 6
number Index = 7
number Column = 8
number ReadOnly = 9
number Op = 10
number Vlen = 11
number In = 12
number Filter = 13
number Mod = 14
number Value = 15
number Dup = 16
number Null = 17
number Range = 18
number Full = 19
number Big = 20
number Ids = 21
number AuthKey = 22
number Syntax = 30
number Name = 31
number WrongKind = 32

-- The text that stands beside the number.
abbrev pub text : Code → List ℕ
text Cmd = codes "cmd"
text Args = codes "args"
text Unauth = codes "unauth"
text Token = codes "token"
text NoIndex = codes "noindex"
text Table = codes "table"
text Index = codes "index"
text Column = codes "column"
text ReadOnly = codes "readonly"
text Op = codes "op"
text Vlen = codes "vlen"
text In = codes "in"
text Filter = codes "filter"
text Mod = codes "mod"
text Value = codes "value"
text Dup = codes "dup"
text Null = codes "null"
text Range = codes "range"
text Full = codes "full"
text Big = codes "big"
text Ids = codes "ids"
text AuthKey = codes "authkey"
text Syntax = codes "syntax"
text Name = codes "name"
text WrongKind = codes "type"

-- All refusals.
abbrev pub all_codes : List Code
all_codes =
    Cmd ∷ Args ∷ Unauth ∷ Token ∷ NoIndex ∷ Table ∷ Index ∷ Column ∷ ReadOnly ∷ Op ∷ Vlen ∷ In
    ∷ Filter ∷ Mod ∷ Value ∷ Dup ∷ Null ∷ Range ∷ Full ∷ Big ∷ Ids ∷ AuthKey ∷ Syntax ∷ Name
    ∷ WrongKind ∷ []

-- The refusal with a number, if there is one.
abbrev pub code_of : ℕ → Option Code
code_of n = first all_codes where
  first : List Code → Option Code
  first [] = None
  first (c ∷ cs) = if number c == n then Some c else first cs

-- The text that stands beside a reply's number, which is empty where it is no refusal's.
abbrev pub text_of : ℕ → List ℕ
text_of n = text_if (code_of n) where
  text_if : Option Code → List ℕ
  text_if None = []
  text_if (Some c) = text c
