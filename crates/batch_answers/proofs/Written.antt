-- Replies, part by part.
--     zero_written, code_written, count_written, number_written
use Rattle.std.proofs.Common.{◌≡◌, ◌≢◌, ℕ, ℤ, ◌<◌, ◌^◌, Bool, Some, cond, List, [], ◌∷◌, ◌++◌, decimal, pos, ap, sym, subst, ◌∙◌, arith}
use Rattle.std.specs.Fmt.{signed_decimal}
use Rattle.std.proofs.lemmas.Bool.{ne_eqb}
use Rattle.std.proofs.lemmas.List.{append_assoc, append-nil}
use Rattle.hs_token.specs.declared.tokens.Token.{Token}
use Rattle.hs_token.specs.declared.tokens.Token.TheVariants.{Text}
use Rattle.hs_token.specs.Spelling.{text_spelled, behind_tabs, reply_head, reply_line}
use Rattle.hs_token.proofs.ReplyLemmas.{reply_parts}
use Rattle.batch_answers.specs.Replies.{code_reply, count_reply, insert_reply}
use Rattle.request_types.specs.Code.{text_of}

-- a reply line in its parts
line_is : (code : ℕ) (tokens : List Token) → code < 2 ^ 32 → reply_line code 1 tokens ≡ reply_head code 1 ++ (behind_tabs tokens ++ 10 ∷ [])
line_is code tokens small =
    reply_parts code 1 tokens small (omega arith) ∙ append_assoc (reply_head code 1) (behind_tabs tokens) (10 ∷ [])

-- a head and a LF
pub zero_written : (out : List ℕ) (code : ℕ) → code ≡ 0 → (out ++ reply_head code 1) ++ 10 ∷ [] ≡ out ++ code_reply code
zero_written out code zero =
    subst (λ (n : ℕ). (out ++ reply_head n 1) ++ 10 ∷ [] ≡ out ++ code_reply n) (sym zero)
    (append_assoc out (reply_head 0 1) (10 ∷ []) ∙ ap (λ (line : List ℕ). out ++ line) (sym (line_is 0 [] (omega arith))))

-- a head, a HT and a text, and a LF
with_text : (out text : List ℕ) (code : ℕ) → code < 2 ^ 32 → (((out ++ reply_head code 1) ++ 9 ∷ []) ++ text_spelled text) ++ 10 ∷ [] ≡ out ++ reply_line code 1 (Text text ∷ [])
with_text out text code small =
    append_assoc ((out ++ reply_head code 1) ++ 9 ∷ []) (text_spelled text) (10 ∷ [])
    ∙ append_assoc (out ++ reply_head code 1) (9 ∷ []) (text_spelled text ++ 10 ∷ [])
    ∙ append_assoc out (reply_head code 1) (9 ∷ (text_spelled text ++ 10 ∷ []))
    ∙ ap (λ (spelled : List ℕ). out ++ (reply_head code 1 ++ 9 ∷ (spelled ++ 10 ∷ []))) (sym (append-nil (text_spelled text)))
    ∙ ap (λ (line : List ℕ). out ++ line) (sym (line_is code (Text text ∷ []) small))

pub code_written : (out : List ℕ) (code : ℕ) → code ≢ 0 → code < 2 ^ 32 → (((out ++ reply_head code 1) ++ 9 ∷ []) ++ text_spelled (text_of code)) ++ 10 ∷ [] ≡ out ++ code_reply code
code_written out code some small =
    with_text out (text_of code) code small
    ∙ ap (λ (b : Bool). out ++ cond b (reply_line 0 1 []) (reply_line code 1 (Text (text_of code) ∷ []))) (sym (ne_eqb code 0 some))

pub count_written : (out : List ℕ) (count : ℕ) → (((out ++ reply_head 0 1) ++ 9 ∷ []) ++ text_spelled (signed_decimal (pos count))) ++ 10 ∷ [] ≡ out ++ count_reply count
count_written out count = with_text out (decimal count) 0 (omega arith)

pub number_written : (out : List ℕ) (number : ℤ) → (((out ++ reply_head 0 1) ++ 9 ∷ []) ++ text_spelled (signed_decimal number)) ++ 10 ∷ [] ≡ out ++ insert_reply (Some number)
number_written out number = with_text out (signed_decimal number) 0 (omega arith)
