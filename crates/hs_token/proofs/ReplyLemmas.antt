-- A reply, token behind token.
use Rattle.std.proofs.Common.{◌≡◌, ℕ, suc, ℤ, pos, negsuc, ◌<◌, ◌≤◌, ◌^◌, true, leb, List, [], ◌∷◌, ◌++◌, refl, sym, ap, ◌∙◌, arith, append-nil, append_assoc, decimal, Result, Ok, Err, OnOk, OnErr, FitsSigned, ◌-◌, length, take, drop, get_or}
use Rattle.std.proofs.lemmas.Bool.{leb-true, and_parts}
use Rattle.std.proofs.lemmas.List.{take_all}
use Rattle.std.proofs.lemmas.Fmt.{digits_decimal}
use Rattle.std.specs.List.{AllByRecursion}
use Rattle.std.specs.Char.{is_ascii_digit}
use Rattle.std.specs.Str.{all_ascii_digits}
use Rattle.hs_token.specs.declared.tokens.Token.{Token}
use Rattle.hs_token.specs.declared.tokens.Token.TheVariants.{Text}
use Rattle.hs_token.specs.Spelling.{text_spelled, token_spelled, line_spelled, behind_tabs, reply_head, reply_line}
use Rattle.hs_token.specs.Steps.{Extends}
use Rattle.hs_token.proofs.Texts.{spelled-plain}
use Rattle.hs_token.proofs.NumberLemmas.{own}
use Rattle.std.specs.Int.{w64}
use Rattle.std.specs.Fmt.{signed_decimal}

pub line_is : (t : Token) (ts : List Token) → line_spelled (t ∷ ts) ≡ token_spelled t ++ behind_tabs ts
line_is t [] = sym (append-nil (token_spelled t))
line_is t (u ∷ us) = ap (λ (l : List ℕ). token_spelled t ++ 9 ∷ l) (line_is u us)

-- a line of at least one token, in its first token and the others
line_parts : (ts : List Token) (t : Token) → 1 ≤ length ts → t ≡ get_or ts 0 t → token_spelled t ++ behind_tabs (take (length ts - 1) (drop 1 ts)) ≡ line_spelled ts
line_parts [] t some is = absurd (omega arith)
line_parts (u ∷ us) t some is =
    let first : t ≡ u = is in
    let others : take (length (u ∷ us) - 1) us ≡ us = take_all (length (u ∷ us) - 1) us (omega arith) in
    rw (first, others) (sym (line_is u us))

on_ok : {A B : Type 0} (r : Result A B) (P Q : Type 0) → (P → Q) → OnOk r P → OnOk r Q
on_ok (Ok x) P Q f p = f p
on_ok (Err e) P Q f p = tt

pub line_written : {A B : Type 0} (r : Result A B) (ts : List Token) (t : Token) (old mid new : List ℕ) → 1 ≤ length ts → t ≡ get_or ts 0 t → mid ≡ old ++ token_spelled t
    → OnOk r (new ≡ mid ++ behind_tabs (take (length ts - 1) (drop 1 ts))) → OnOk r (new ≡ old ++ line_spelled ts)
line_written r ts t old mid new some is first = on_ok r _ _ (λ rest.
    rest ∙ (rw first (append_assoc old (token_spelled t) (behind_tabs (take (length ts - 1) (drop 1 ts))) ∙ ap (λ (l : List ℕ). old ++ l) (line_parts ts t some is))))

digits_plain : (text : List ℕ) → all_ascii_digits text ≡ true → AllByRecursion (λ b. 16 ≤ b) text
digits_plain [] e = tt
digits_plain (b ∷ bs) e =
    let both = and_parts (is_ascii_digit b) (all_ascii_digits bs) e in
    let low : 48 ≤ b = leb-true 48 b (and_parts (leb 48 b) (leb b 57) both.0).0 in
    (omega arith, digits_plain bs both.1)

pub spelled_decimal : (n : ℕ) → n < 2 ^ 64 → text_spelled (decimal n) ≡ decimal n
spelled_decimal n lt =
    ap text_spelled (sym (append-nil (decimal n))) ∙ (spelled-plain (decimal n) [] (digits_plain (decimal n) (digits_decimal own n lt)) ∙ append-nil (decimal n))

-- an integer in its printed form stands for itself
pub spelled_signed : (z : ℤ) → FitsSigned w64 z → text_spelled (signed_decimal z) ≡ signed_decimal z
spelled_signed (pos n) fits = spelled_decimal n (let lt : n < 2 ^ 63 = omega (arith, fits) in omega arith)
spelled_signed (negsuc n) fits =
    ap (λ (l : List ℕ). 45 ∷ l) (spelled_decimal (suc n) (let lt : n < 2 ^ 63 = omega (arith, fits) in omega arith))

pub reply_is : (code columns : ℕ) (ts : List Token) → code < 2 ^ 32 → columns < 2 ^ 32
    → reply_line code columns ts ≡ (decimal code ++ 9 ∷ decimal columns ++ behind_tabs ts) ++ 10 ∷ []
reply_is code columns ts small few =
    let line = line_is (Text (decimal code)) (Text (decimal columns) ∷ ts) in
    ap (λ (l : List ℕ). l ++ 10 ∷ []) (line ∙ rw (spelled_decimal code (omega arith), spelled_decimal columns (omega arith), append_assoc) refl)

pub reply_parts : (code columns : ℕ) (ts : List Token) → code < 2 ^ 32 → columns < 2 ^ 32
    → reply_line code columns ts ≡ reply_head code columns ++ behind_tabs ts ++ 10 ∷ []
reply_parts code columns ts small few =
    reply_is code columns ts small few ∙ rw (append_assoc, append_assoc) refl

pub reply_whole : (old head mid new : List ℕ) (code columns : ℕ) (ts : List Token) → code < 2 ^ 32 → columns < 2 ^ 32
    → head ≡ old ++ reply_head code columns → mid ≡ head ++ behind_tabs ts → new ≡ mid ++ 10 ∷ [] → new ≡ old ++ reply_line code columns ts
reply_whole old head mid new code columns ts small few begun more end =
    let body = reply_head code columns ++ behind_tabs ts in
    let front : mid ≡ old ++ body =
    more ∙ (ap (λ (l : List ℕ). l ++ behind_tabs ts) begun ∙ append_assoc old (reply_head code columns) (behind_tabs ts)) in
    let whole : new ≡ old ++ (body ++ 10 ∷ []) =
    end ∙ (ap (λ (l : List ℕ). l ++ 10 ∷ []) front ∙ append_assoc old body (10 ∷ [])) in
    whole ∙ ap (λ (l : List ℕ). old ++ l) (sym (reply_parts code columns ts small few))

pub extends_more : (old mid now : List ℕ) → Extends old mid → Extends mid now → Extends old now
extends_more old mid now first more = (first.0 ++ more.0, more.1 ∙ (ap (λ (l : List ℕ). l ++ more.0) first.1 ∙ append_assoc old first.0 more.0))

pub on_err : {A B : Type 0} (r : Result A B) (P : Type 0) → P → OnErr r P
on_err (Ok x) P p = tt
on_err (Err e) P p = p
