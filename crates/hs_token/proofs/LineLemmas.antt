-- The tokens that are read of a line spell it, and the tokens that a line spells are read.
use Rattle.std.proofs.Common.{Option, ◌≡◌, ◌≢◌, ℕ, suc, ◌+◌, ◌<◌, true, false, leb, ltb, List, [], ◌∷◌, ◌++◌, map, Some, None, Result, Ok, Err, refl, sym, ap, subst, ◌∙◌, arith, inl, inr, get_or, append-nil, ◌↔◌, IsErrAnd}
use Rattle.std.proofs.lemmas.Bool.{cases_lt, le-leb, lt-ltb}
use Rattle.std.specs.List.{AllByRecursion}
use Rattle.std.specs.Global.{Vec}
use Rattle.hs_token.specs.declared.tokens.Token.{Token}
use Rattle.hs_token.specs.declared.tokens.Token.TheVariants.{Null, Text}
use Rattle.hs_token.specs.declared.lines.TokenFault.{TokenFault}
use Rattle.hs_token.specs.declared.lines.TokenFault.TheVariants.{BadToken, NoMemory}
use Rattle.hs_token.specs.Spelling.{text_spelled, token_spelled, line_spelled, IsToken}
use Rattle.hs_token.specs.Reading.{is_bad, next_byte, first_bad_from, first_bad, fields_of, token_of, line_at, Gives, IsFirstBad}
use Rattle.hs_token.proofs.Cases.{plain, escaped, plain_is_good}
use Rattle.hs_token.proofs.Places.{some_is, first_bad_is, is_first_bad}
use Rattle.hs_token.proofs.Texts.{IsByteList, IsPiece, IsField, piece_spelled, token_fits, token_again, token_field}
use Rattle.hs_token.proofs.Pieces.{joined, pieces, joined_fields, fields_fit, pieces_good, fields_one, fields_more}

-- ---- what is read is spelled so

pieces_spelled : (fs : List (List ℕ)) → AllByRecursion IsPiece fs → line_spelled (map token_of fs) ≡ joined fs
pieces_spelled [] good = refl
pieces_spelled (f ∷ []) good = piece_spelled f good.0
pieces_spelled (f ∷ g ∷ gs) good = rw (piece_spelled f good.0) (ap (λ (l : List ℕ). f ++ 9 ∷ l) (pieces_spelled (g ∷ gs) good.1))

tokens_fit : (fs : List (List ℕ)) → AllByRecursion IsByteList fs → AllByRecursion IsToken (map token_of fs)
tokens_fit [] fits = tt
tokens_fit (f ∷ fs) fits = (token_fits f fits.0, tokens_fit fs fits.1)

pub bytes_list : (bytes : List ℕ) → ((i : ℕ) → get_or bytes i 0 < 256) → IsByteList bytes
bytes_list [] h = tt
bytes_list (b ∷ bs) h = (h 0, bytes_list bs (λ i. h (suc i)))

pub line_tokens_spelled : (line : List ℕ) → first_bad line ≡ None → line ≡ line_spelled (map token_of (fields_of line))
line_tokens_spelled line e = sym (pieces_spelled (fields_of line) (pieces_good line e) ∙ joined_fields line)

pub line_tokens_fit : (line : List ℕ) → IsByteList line → AllByRecursion IsToken (map token_of (fields_of line))
line_tokens_fit line fits = tokens_fit (fields_of line) (fields_fit line fits)

pub line_tokens_some : (line : List ℕ) → map token_of (fields_of line) ≢ []
line_tokens_some line e = let is = (pieces line).is in let h = ap (map token_of) (sym is) ∙ e in absurd cc

-- ---- what is spelled so is read

-- bytes that are good behind every byte
abbrev IsGoodBehind : List ℕ → Type 0
IsGoodBehind rest = (place before : ℕ) → first_bad_from place before rest ≡ None

text_is_good : (text rest : List ℕ) → IsGoodBehind rest → IsGoodBehind (text_spelled text ++ rest)
text_is_good [] rest good place before = good place before
text_is_good (b ∷ bs) rest good place before =
    elim (cases_lt b 16) [
      | inl lt ↦
          let low : leb 64 (b + 64) ≡ true = le-leb 64 (b + 64) (omega arith) in
          let high : ltb (b + 64) 80 ≡ true = lt-ltb (b + 64) 80 (omega arith) in
          let fine : is_bad 1 (b + 64) (next_byte (text_spelled bs ++ rest)) ≡ false = plain_is_good 1 (b + 64) (next_byte (text_spelled bs ++ rest)) (omega arith) in
          rw (escaped b lt, low, high, fine) (text_is_good bs rest good (place + 1 + 1) (b + 64))
      | inr le ↦
          let fine : is_bad before b (next_byte (text_spelled bs ++ rest)) ≡ false = plain_is_good before b (next_byte (text_spelled bs ++ rest)) le in
          rw (plain b le, fine) (text_is_good bs rest good (place + 1) b)
    ]

token_is_good : (place : ℕ) (t : Token) (rest : List ℕ) → next_byte rest ≡ 9 → IsGoodBehind rest → first_bad_from place 9 (token_spelled t ++ rest) ≡ None
token_is_good place Null rest next good = rw next (good (place + 1) 0)
token_is_good place (Text text) rest next good = text_is_good text rest good place 9

line_is_good : (place : ℕ) (ts : List Token) → first_bad_from place 9 (line_spelled ts) ≡ None
line_is_good place [] = refl
line_is_good place (t ∷ []) =
    subst (λ (l : List ℕ). first_bad_from place 9 l ≡ None) (append-nil (token_spelled t)) (token_is_good place t [] refl (λ p b. refl))
line_is_good place (t ∷ u ∷ us) =
    token_is_good place t (9 ∷ line_spelled (u ∷ us)) refl (λ p b. line_is_good (p + 1) (u ∷ us))

read_again : (t : Token) (ts : List Token) → map token_of (fields_of (line_spelled (t ∷ ts))) ≡ t ∷ ts
read_again t [] = rw (fields_one (token_spelled t) (token_field t), token_again t) refl
read_again t (u ∷ us) =
    rw (fields_more (token_spelled t) (line_spelled (u ∷ us)) (token_field t), token_again t, read_again u us) refl

pub line_again : (ts : List Token) → ts ≢ [] → line_at (line_spelled ts) ≡ Ok ts
line_again [] some = absurd (some refl)
line_again (t ∷ ts) some = rw (line_is_good 0 (t ∷ ts), read_again t ts) refl

-- ---- no two share a spelling, and none has a line feed

abbrev read : List Token → Result (List Token) ℕ
read ts = Ok ts

tokens_are : (ts us : List Token) → read ts ≡ read us → ts ≡ us
tokens_are ts us e = cc

pub same_tokens : (ts us : List Token) → ts ≢ [] → us ≢ [] → line_spelled ts ≡ line_spelled us → ts ≡ us
same_tokens ts us some other e = tokens_are ts us (sym (line_again ts some) ∙ (ap line_at e ∙ line_again us other))

pub same_token : (t u : Token) → token_spelled t ≡ token_spelled u → t ≡ u
same_token t u e = sym (token_again t) ∙ (ap token_of e ∙ token_again u)

abbrev IsOneLine : List ℕ → Type 0
IsOneLine bytes = AllByRecursion (λ b. b ≢ 10) bytes

field_line : (s rest : List ℕ) → IsField s → IsOneLine rest → IsOneLine (s ++ rest)
field_line [] rest field fine = fine
field_line (b ∷ s) rest field fine = (field.0.1, field_line s rest field.1 fine)

pub one_line : (ts : List Token) → IsOneLine (line_spelled ts)
one_line [] = tt
one_line (t ∷ []) = subst IsOneLine (append-nil (token_spelled t)) (field_line (token_spelled t) [] (token_field t) tt)
one_line (t ∷ u ∷ us) = field_line (token_spelled t) (9 ∷ line_spelled (u ∷ us)) (token_field t) (λ e. omega arith, one_line (u ∷ us))

-- ---- the clauses of `decode_line`

pub line_bad : (line : List ℕ) (place : ℕ) → first_bad line ≡ Some place → line_at line ≡ Err place
line_bad line place e = rw e refl

pub line_fine : (line : List ℕ) → first_bad line ≡ None → line_at line ≡ Ok (map token_of (fields_of line))
line_fine line e = rw e refl

abbrev pub Answer : Type 0
Answer = Result (Vec Token) TokenFault

pub only_is : (line : List ℕ) (r : Answer) → Gives (λ v. v.items) r (line_at line) → (ts : List Token) → ts ≢ [] → line ≡ line_spelled ts → Gives (λ v. v.items) r (Ok ts)
only_is line r given ts some is = subst (Gives (λ v. v.items) r) (ap line_at is ∙ line_again ts some) given

abbrev pub refused : ℕ → Answer
refused place = Err (BadToken place)

same_place : (p q : ℕ) → refused p ≡ refused q → p ≡ q
same_place p q e = cc

no_place : (line : List ℕ) (place : ℕ) → first_bad line ≡ None → IsFirstBad line place → ⊥
no_place line place e is = let h = sym e ∙ is_first_bad line place is in cc

pub bad_is : (line : List ℕ) (p : ℕ) → first_bad line ≡ Some p → (place : ℕ) → (refused p ≡ refused place) ↔ IsFirstBad line place
bad_is line p e place = (
  λ same. subst (IsFirstBad line) (same_place p place same) (first_bad_is line p e),
  λ is. ap refused (some_is p place (sym e ∙ is_first_bad line place is)),
)

pub bad_not : (line : List ℕ) (r : Answer) → first_bad line ≡ None → ((place : ℕ) → r ≢ refused place) → (place : ℕ) → (r ≡ refused place) ↔ IsFirstBad line place
bad_not line r e other place = (λ same. absurd (other place same), λ is. absurd (no_place line place e is))

pub tokens_not_refused : (v : Vec Token) (place : ℕ) → Ok v ≢ refused place
tokens_not_refused v place e = cc

pub memory_not_refused : (r : Answer) → IsErrAnd r (λ fault. fault ≡ NoMemory) → (place : ℕ) → r ≢ refused place
memory_not_refused (Ok v) memory place e = cc
memory_not_refused (Err fault) memory place e = cc

pub found_is : (line : List ℕ) (ts : List Token) → IsByteList line → first_bad line ≡ None → ts ≡ map token_of (fields_of line) → (ts ≢ []) × AllByRecursion IsToken ts × (line ≡ line_spelled ts)
found_is line ts fits e is =
    subst (λ (ts : List Token). (ts ≢ []) × AllByRecursion IsToken ts × (line ≡ line_spelled ts)) (sym is)
    (line_tokens_some line, line_tokens_fit line fits, line_tokens_spelled line e)

-- ---- a line is bad or spelled

pub bad_is_unspelled : (line : List ℕ) (place : ℕ) → IsFirstBad line place → (ts : List Token) → ts ≢ [] → line ≢ line_spelled ts
bad_is_unspelled line place is ts some e =
    let bad : line_at line ≡ Err place = line_bad line place (is_first_bad line place is) in
    let good : line_at line ≡ Ok ts = ap line_at e ∙ line_again ts some in
    let h = sym bad ∙ good in
    cc

abbrev pub IsSpelled : List ℕ → Type 0
IsSpelled line = (ts : List Token) × (ts ≢ []) × (line ≡ line_spelled ts)

spelled_unless : (line : List ℕ) (first : Option ℕ) → first_bad line ≡ first → ((place : ℕ) → ¬ IsFirstBad line place) → IsSpelled line
spelled_unless line (Some place) e none = absurd (none place (first_bad_is line place e))
spelled_unless line None e none = (map token_of (fields_of line), line_tokens_some line, line_tokens_spelled line e)

pub good_is_spelled : (line : List ℕ) → ((place : ℕ) → ¬ IsFirstBad line place) → IsSpelled line
good_is_spelled line none = spelled_unless line (first_bad line) refl none
