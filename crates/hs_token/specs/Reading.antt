-- What a line says: its tokens, or its first bad place.
use Rattle.std.specs.Prelude.{◌≡◌, ℕ, ◌+◌, ◌-◌, ◌<◌, List, [], ◌∷◌, map, length, slice_index_or, Option, Some, None, Result, Ok, Err, Bool, true, false, not, ◌&&◌, ◌==◌, nat_le, nat_lt, if◌then◌else◌}
use Rattle.hs_token.specs.declared.tokens.Token.{Token}
use Rattle.hs_token.specs.declared.tokens.Token.TheVariants.{Null, Text}
use Rattle.hs_token.specs.declared.lines.TokenFault.{TokenFault}
use Rattle.hs_token.specs.declared.lines.TokenFault.TheVariants.{BadToken, NoMemory}

-- The next step of a reading, unless there was a bad place before.
infixl 10 ◌>>=◌
abbrev pub ◌>>=◌ : {A B : Type 0} → Result A ℕ → (A → Result B ℕ) → Result B ℕ
(Ok x) >>= f = f x
(Err place) >>= f = Err place

-- A fault is the bad place of what was read; want of memory may come with any reading.
abbrev pub Fails : {Y : Type 0} → TokenFault → Result Y ℕ → Type 0
Fails (BadToken place) read = read ≡ Err place
Fails NoMemory read = Unit {0}

-- What a call answered, seen by view, is what the reading gives, unless memory ran out.
abbrev pub Gives : {X Y : Type 0} → (X → Y) → Result X TokenFault → Result Y ℕ → Type 0
Gives view (Ok x) read = read ≡ Ok (view x)
Gives view (Err fault) read = Fails fault read

-- The second byte of a pair is 0x40 to 0x4F.
abbrev pub is_second : ℕ → Bool
is_second b = nat_le 64 b && nat_lt b 80

-- Whether a byte is bad between these two, where an HT stands for the line's ends. 0x01 is bad
-- unless the second byte of a pair follows in the same token, 0x00 unless it is the whole token, and
-- HT never; every other byte below 0x10 is bad.
abbrev pub is_bad : ℕ → ℕ → ℕ → Bool
is_bad before b after =
    if b == 1 then not (is_second after)
    else if b == 0 then not (before == 9 && after == 9)
    else nat_lt b 16 && not (b == 9)

-- Whether the byte at this place of a line is bad.
abbrev pub is_bad_at : List ℕ → ℕ → Bool
is_bad_at line place =
    is_bad (slice_index_or (9 ∷ line) place 9) (slice_index_or line place 9)
    (slice_index_or line (place + 1) 9)

-- The first bad place is a bad place, and no place before it is one.
pub record IsFirstBad (line : List ℕ) (place : ℕ) : Type 0 where
  pub bad : is_bad_at line place ≡ true
  pub first : (k : ℕ) → k < place → is_bad_at line k ≡ false

-- The first byte, or an HT at a line's end.
abbrev pub next_byte : List ℕ → ℕ
next_byte [] = 9
next_byte (b ∷ bs) = b

-- The first bad place among these bytes, which stand from this place on behind this byte.
abbrev pub first_bad_from : ℕ → ℕ → List ℕ → Option ℕ
first_bad_from place before [] = None
first_bad_from place before (b ∷ bs) =
    if is_bad before b (next_byte bs) then Some place else first_bad_from (place + 1) b bs

-- The first bad place of a line, if it has one.
abbrev pub first_bad : List ℕ → Option ℕ
first_bad line = first_bad_from 0 9 line

-- A byte more at the front of the first piece.
abbrev pub onto_first : ℕ → List (List ℕ) → List (List ℕ)
onto_first b [] = (b ∷ []) ∷ []
onto_first b (f ∷ fs) = (b ∷ f) ∷ fs

-- The pieces between the HTs of a line, of which there is one more than of HTs.
abbrev pub fields_of : List ℕ → List (List ℕ)
fields_of [] = [] ∷ []
fields_of (b ∷ bs) = if b == 9 then [] ∷ fields_of bs else onto_first b (fields_of bs)

-- The text of a piece without a bad byte: behind 0x01 stands a byte and 0x40.
abbrev pub text_of : Bool → List ℕ → List ℕ
text_of behind_one [] = []
text_of true (b ∷ bs) = (b - 64) ∷ text_of false bs
text_of false (b ∷ bs) = if b == 1 then text_of true bs else b ∷ text_of false bs

-- Whether a piece is a 0x00 alone.
abbrev pub is_null : List ℕ → Bool
is_null field = length field == 1 && slice_index_or field 0 9 == 0

-- The token of a piece without a bad byte.
abbrev pub token_of : List ℕ → Token
token_of field = if is_null field then Null else Text (text_of false field)

-- The tokens of a line, or its first bad place.
abbrev pub line_at : List ℕ → Result (List Token) ℕ
line_at line = tokens_unless (first_bad line) where
  tokens_unless : Option ℕ → Result (List Token) ℕ
  tokens_unless None = Ok (map token_of (fields_of line))
  tokens_unless (Some place) = Err place
