-- Lines and rest of bytes that are put together, and the one way in which a stream is cut.
use Rattle.std.proofs.Common.{◌≡◌, ℕ, Bool, true, false, ◌||◌, ◌==◌, eqb, List, [], ◌∷◌, ◌++◌, length, refl, sym, ap, ◌∙◌, ⊎_elim}
use Rattle.std.specs.List.{AllByRecursion}
use Rattle.std.proofs.lemmas.List.Folds.{list_any-append}
use Rattle.std.proofs.lemmas.Bool.{cases_Bool, or_parts, or_left, or_right, both_ways, eqb-true}
use Rattle.hs_line.specs.Lines.{has_lf, IsLine, onto_first, lines_of, rest_of, joined}

-- an LF is in two lists together where it is in one of them
pub has_lf-append : (xs ys : List ℕ) → has_lf (xs ++ ys) ≡ (has_lf xs || has_lf ys)
has_lf-append xs ys = list_any-append (λ (b : ℕ). b == 10) xs ys

pub has_lf-left : (xs ys : List ℕ) → has_lf xs ≡ true → has_lf (xs ++ ys) ≡ true
has_lf-left xs ys is = has_lf-append xs ys ∙ or_left (has_lf xs) (has_lf ys) is

pub has_lf-line : (line more : List ℕ) → has_lf (line ++ 10 ∷ more) ≡ true
has_lf-line line more = has_lf-append line (10 ∷ more) ∙ or_right (has_lf line) true refl

-- bytes without an LF have no line, and are the rest
pub lines_of-none : (bytes : List ℕ) → IsLine bytes → lines_of bytes ≡ []
lines_of-none [] is = refl
lines_of-none (b ∷ bytes) is =
    let parts = or_parts (eqb b 10) (has_lf bytes) is in
    let other : eqb b 10 ≡ false = parts.0 in
    rw other (ap (onto_first b) (lines_of-none bytes parts.1))

pub rest_of-none : (bytes : List ℕ) → IsLine bytes → rest_of bytes ≡ bytes
rest_of-none [] is = refl
rest_of-none (b ∷ bytes) is = rw is refl

-- a line and its LF before other bytes are the first line
pub lines_of-line : (line more : List ℕ) → IsLine line → lines_of (line ++ 10 ∷ more) ≡ line ∷ lines_of more
lines_of-line [] more is = refl
lines_of-line (b ∷ bytes) more is =
    let parts = or_parts (eqb b 10) (has_lf bytes) is in
    let other : eqb b 10 ≡ false = parts.0 in
    rw other (ap (onto_first b) (lines_of-line bytes more parts.1))

pub rest_of-line : (line more : List ℕ) → rest_of (line ++ 10 ∷ more) ≡ rest_of more
rest_of-line [] more = refl
rest_of-line (b ∷ bytes) more =
    let held : (eqb b 10 || has_lf (bytes ++ 10 ∷ more)) ≡ true = or_right (eqb b 10) (has_lf (bytes ++ 10 ∷ more)) (has_lf-line bytes more) in
    rw held (rest_of-line bytes more)

-- bytes with an LF are a line, its LF and what follows
pub record StartsWithLine (bytes : List ℕ) : Type 0 where
  pub line : List ℕ
  pub more : List ℕ
  pub is_line : IsLine line
  pub parts : bytes ≡ line ++ 10 ∷ more

with_byte : (b : ℕ) (bytes : List ℕ) → eqb b 10 ≡ false → StartsWithLine bytes → StartsWithLine (b ∷ bytes)
with_byte b bytes other found = record {
  line = b ∷ found.line;
  more = found.more;
  is_line = rw other found.is_line;
  parts = ap (λ (l : List ℕ). b ∷ l) found.parts;
}

at_lf : (b : ℕ) (bytes : List ℕ) → eqb b 10 ≡ true → StartsWithLine (b ∷ bytes)
at_lf b bytes is = record {
  line = [];
  more = bytes;
  is_line = refl;
  parts = ap (λ (n : ℕ). n ∷ bytes) (eqb-true b 10 is);
}

pub first_line_found : (bytes : List ℕ) → has_lf bytes ≡ true → StartsWithLine bytes
first_line_found [] is = absurd (both_ways false refl is)
first_line_found (b ∷ bytes) is =
    ⊎_elim (λ here. at_lf b bytes here)
    (λ other. with_byte b bytes other (first_line_found bytes (sym (ap (λ (t : Bool). t || has_lf bytes) other) ∙ is)))
    (cases_Bool (eqb b 10))

-- no line is held where there is no LF, and only there
pub IsLine-no_lines : (bytes : List ℕ) → lines_of bytes ≡ [] → IsLine bytes
IsLine-no_lines bytes none =
    ⊎_elim (λ is.
    let found = first_line_found bytes is in
    let first : lines_of bytes ≡ found.line ∷ lines_of found.more = ap lines_of found.parts ∙ lines_of-line found.line found.more found.is_line in
    cc)
    (λ no_lf. no_lf)
    (cases_Bool (has_lf bytes))

-- a byte goes to the front of the first line, whatever lines follow
onto_first-append : (b : ℕ) (bytes : List ℕ) (more : List (List ℕ)) → has_lf bytes ≡ true → onto_first b (lines_of bytes ++ more) ≡ onto_first b (lines_of bytes) ++ more
onto_first-append b bytes more is =
    let found = first_line_found bytes is in
    let first : lines_of bytes ≡ found.line ∷ lines_of found.more = ap lines_of found.parts ∙ lines_of-line found.line found.more found.is_line in
    rw first refl

-- what is read later is read after the rest of what came before
module _ (ys : List ℕ) where
  lines_of-append_held : (b : ℕ) (bytes : List ℕ) → lines_of (bytes ++ ys) ≡ lines_of bytes ++ lines_of (rest_of bytes ++ ys) → has_lf (b ∷ bytes) ≡ true → lines_of (b ∷ (bytes ++ ys)) ≡ lines_of (b ∷ bytes) ++ lines_of (rest_of bytes ++ ys)
  lines_of-append_held b bytes later is =
      ⊎_elim (λ here. rw here (ap (λ (l : List (List ℕ)). [] ∷ l) later))
      (λ other.
      let ends : has_lf bytes ≡ true = sym (ap (λ (t : Bool). t || has_lf bytes) other) ∙ is in
      rw other (ap (onto_first b) later ∙ onto_first-append b bytes (lines_of (rest_of bytes ++ ys)) ends))
      (cases_Bool (eqb b 10))

  pub lines_of-append-of : (xs : List ℕ) → lines_of (xs ++ ys) ≡ lines_of xs ++ lines_of (rest_of xs ++ ys)
  lines_of-append-of [] = refl
  lines_of-append-of (b ∷ bytes) =
      ⊎_elim (λ is. rw is (lines_of-append_held b bytes (lines_of-append-of bytes) is))
      (λ none. let no_line : lines_of (b ∷ bytes) ≡ [] = lines_of-none (b ∷ bytes) none in rw (no_line, none) refl)
      (cases_Bool (has_lf (b ∷ bytes)))

  rest_of-append_held : (b : ℕ) (bytes : List ℕ) → has_lf (b ∷ bytes) ≡ true → rest_of (b ∷ (bytes ++ ys)) ≡ rest_of (bytes ++ ys)
  rest_of-append_held b bytes is = let held : has_lf (b ∷ (bytes ++ ys)) ≡ true = has_lf-left (b ∷ bytes) ys is in rw held refl

  pub rest_of-append-of : (xs : List ℕ) → rest_of (xs ++ ys) ≡ rest_of (rest_of xs ++ ys)
  rest_of-append-of [] = refl
  rest_of-append-of (b ∷ bytes) =
      ⊎_elim (λ is. rw is (rest_of-append_held b bytes is ∙ rest_of-append-of bytes))
      (λ none. rw none refl)
      (cases_Bool (has_lf (b ∷ bytes)))

pub lines_of-append : (xs ys : List ℕ) → lines_of (xs ++ ys) ≡ lines_of xs ++ lines_of (rest_of xs ++ ys)
lines_of-append xs ys = lines_of-append-of ys xs

pub rest_of-append : (xs ys : List ℕ) → rest_of (xs ++ ys) ≡ rest_of (rest_of xs ++ ys)
rest_of-append xs ys = rest_of-append-of ys xs

-- no line and no rest has an LF
onto_first-lines : (b : ℕ) (lines : List (List ℕ)) → eqb b 10 ≡ false → AllByRecursion IsLine lines → AllByRecursion IsLine (onto_first b lines)
onto_first-lines b [] other each = tt
onto_first-lines b (line ∷ lines) other each = (rw other each.0, each.1)

pub lines_of-lines : (bytes : List ℕ) → AllByRecursion IsLine (lines_of bytes)
lines_of-lines [] = tt
lines_of-lines (b ∷ bytes) =
    ⊎_elim (λ here. rw here (refl, lines_of-lines bytes))
    (λ other. rw other (onto_first-lines b (lines_of bytes) other (lines_of-lines bytes)))
    (cases_Bool (eqb b 10))

pub rest_of-line_free : (bytes : List ℕ) → IsLine (rest_of bytes)
rest_of-line_free [] = refl
rest_of-line_free (b ∷ bytes) =
    ⊎_elim (λ is. rw is (rest_of-line_free bytes)) (λ none. rw none none) (cases_Bool (has_lf (b ∷ bytes)))

-- lines and rest are the stream
joined-onto_first : (b : ℕ) (bytes rest : List ℕ) → has_lf bytes ≡ true → joined (onto_first b (lines_of bytes)) rest ≡ b ∷ joined (lines_of bytes) rest
joined-onto_first b bytes rest is =
    let found = first_line_found bytes is in
    let first : lines_of bytes ≡ found.line ∷ lines_of found.more = ap lines_of found.parts ∙ lines_of-line found.line found.more found.is_line in
    rw first refl

joined-held : (b : ℕ) (bytes : List ℕ) → joined (lines_of bytes) (rest_of bytes) ≡ bytes → has_lf (b ∷ bytes) ≡ true → joined (lines_of (b ∷ bytes)) (rest_of bytes) ≡ b ∷ bytes
joined-held b bytes later is =
    ⊎_elim (λ here. rw here (ap (λ (l : List ℕ). 10 ∷ l) later ∙ ap (λ (n : ℕ). n ∷ bytes) (sym (eqb-true b 10 here))))
    (λ other.
    let ends : has_lf bytes ≡ true = sym (ap (λ (t : Bool). t || has_lf bytes) other) ∙ is in
    rw other (joined-onto_first b bytes (rest_of bytes) ends ∙ ap (λ (l : List ℕ). b ∷ l) later))
    (cases_Bool (eqb b 10))

pub joined-lines_of : (bytes : List ℕ) → joined (lines_of bytes) (rest_of bytes) ≡ bytes
joined-lines_of [] = refl
joined-lines_of (b ∷ bytes) =
    ⊎_elim (λ is. rw is (joined-held b bytes (joined-lines_of bytes) is))
    (λ none. let no_line : lines_of (b ∷ bytes) ≡ [] = lines_of-none (b ∷ bytes) none in rw (no_line, none) refl)
    (cases_Bool (has_lf (b ∷ bytes)))

-- lines that are joined are found again
pub lines_of-joined : (lines : List (List ℕ)) (rest : List ℕ) → AllByRecursion IsLine lines → IsLine rest → lines_of (joined lines rest) ≡ lines
lines_of-joined [] rest each is = lines_of-none rest is
lines_of-joined (line ∷ lines) rest each is =
    lines_of-line line (joined lines rest) each.0 ∙ ap (λ (ls : List (List ℕ)). line ∷ ls) (lines_of-joined lines rest each.1 is)

pub rest_of-joined : (lines : List (List ℕ)) (rest : List ℕ) → IsLine rest → rest_of (joined lines rest) ≡ rest
rest_of-joined [] rest is = rest_of-none rest is
rest_of-joined (line ∷ lines) rest is = rest_of-line line (joined lines rest) ∙ rest_of-joined lines rest is

-- what came before without an LF adds no line
length-onto_first : (b : ℕ) (lines : List (List ℕ)) → length (onto_first b lines) ≡ length lines
length-onto_first b [] = refl
length-onto_first b (line ∷ lines) = refl

pub length-lines_of-after : (held piece : List ℕ) → IsLine held → length (lines_of (held ++ piece)) ≡ length (lines_of piece)
length-lines_of-after [] piece is = refl
length-lines_of-after (b ∷ bytes) piece is =
    let parts = or_parts (eqb b 10) (has_lf bytes) is in
    let other : eqb b 10 ≡ false = parts.0 in
    rw other (length-onto_first b (lines_of (bytes ++ piece)) ∙ length-lines_of-after bytes piece parts.1)
