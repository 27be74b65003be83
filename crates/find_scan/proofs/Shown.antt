-- A reply, row after row.
use Rattle.std.proofs.Common.{◌≡◌, ◌⊎◌, inl, inr, ℕ, ◌+◌, ◌<◌, ◌≤◌, ◌^◌, List, [], ◌∷◌, ◌++◌, length, refl, sym, ap, ◌∙◌, append_assoc, length-append, arith}
use Rattle.std.proofs.lemmas.Bool.{cases_lt, lt-ltb, le-ltb}
use Rattle.hs_token.specs.declared.tokens.Token.{Token}
use Rattle.hs_token.specs.Spelling.{token_spelled, behind_tabs, reply_head}
use Rattle.hs_token.proofs.ReplyLemmas.{reply_parts}
use Rattle.row_types.specs.declared.values.Value.{Value}
use Rattle.table_rows.specs.declared.slot_ref.SlotRef.{SlotRef}
use Rattle.table_rows.specs.Rows.{State}
use Rattle.table_rows.specs.Slots.{row_at}
use Rattle.find_scan.specs.Show.{row_tokens, rows_tokens, find_reply, most_reply}
use Rattle.find_scan.specs.Rendering.{rows_at, rendered, below}

pub tabs_append : (ts us : List Token) → behind_tabs (ts ++ us) ≡ behind_tabs ts ++ behind_tabs us
tabs_append [] us = refl
tabs_append (t ∷ ts) us = ap (λ (bytes : List ℕ). 9 ∷ token_spelled t ++ bytes) (tabs_append ts us) ∙ sym (append_assoc (9 ∷ token_spelled t) (behind_tabs ts) (behind_tabs us))

-- one row more is written
pub row_written : (state : State) (table : ℕ) (columns : List ℕ) (old now : List ℕ) (row : List Value) (slot : SlotRef) (rest : List SlotRef)
    → now ≡ old ++ behind_tabs (row_tokens columns row) → row ≡ row_at state table slot.0
    → now ++ behind_tabs (rows_tokens columns (rows_at state table rest)) ≡ old ++ behind_tabs (rows_tokens columns (rows_at state table (slot ∷ rest)))
row_written state table columns old now row slot rest pushed is =
    let more = behind_tabs (rows_tokens columns (rows_at state table rest)) in
    ap (λ (bytes : List ℕ). bytes ++ more) (pushed ∙ ap (λ (r : List Value). old ++ behind_tabs (row_tokens columns r)) is)
    ∙ append_assoc old (behind_tabs (row_tokens columns (row_at state table slot.0))) more
    ∙ ap (λ (bytes : List ℕ). old ++ bytes) (sym (tabs_append (row_tokens columns (row_at state table slot.0)) (rows_tokens columns (rows_at state table rest))))

-- whether there is room for the LF, before it is appended
pub size_is : (old bytes reply : List ℕ) (most : ℕ) → most ≡ length old + 16777216 → length reply + length old ≡ length bytes + 1 → below most bytes ≡ rendered reply
size_is old bytes reply most sum one_more = by_case (cases_lt (length bytes) most)
  where
    by_case : (length bytes < most) ⊎ (most ≤ length bytes) → below most bytes ≡ rendered reply
    by_case (inl lt) = rw (lt-ltb (length bytes) most lt, le-ltb most_reply (length reply) (omega (arith, lt, sum, one_more))) refl
    by_case (inr le) = rw (le-ltb (length bytes) most le, lt-ltb most_reply (length reply) (omega (arith, le, sum, one_more))) refl

module _ (columns : List ℕ) (few : length columns < 2 ^ 32) (rows : List (List Value)) (old : List ℕ) where
  -- the whole reply behind the old bytes is what stands there with its LF
  pub reply_behind : (now : List ℕ) → now ≡ old ++ reply_head 0 (length columns) → (now ++ behind_tabs (rows_tokens columns rows)) ++ 10 ∷ [] ≡ old ++ find_reply columns rows
  reply_behind now head =
      let cells = behind_tabs (rows_tokens columns rows) in
      ap (λ (bytes : List ℕ). (bytes ++ cells) ++ 10 ∷ []) head
      ∙ ap (λ (bytes : List ℕ). bytes ++ 10 ∷ []) (append_assoc old (reply_head 0 (length columns)) cells)
      ∙ append_assoc old (reply_head 0 (length columns) ++ cells) (10 ∷ [])
      ∙ ap (λ (bytes : List ℕ). old ++ bytes) (sym (reply_parts 0 (length columns) (rows_tokens columns rows) (omega arith) few))

  pub reply_size : (now : List ℕ) (most : ℕ) → now ≡ old ++ reply_head 0 (length columns) → most ≡ length old + 16777216
      → below most (now ++ behind_tabs (rows_tokens columns rows)) ≡ rendered (find_reply columns rows)
  reply_size now most head sum =
      let bytes = now ++ behind_tabs (rows_tokens columns rows) in
      size_is old bytes (find_reply columns rows) most sum
      (omega (arith, ap length (reply_behind now head), length-append bytes (10 ∷ []), length-append old (find_reply columns rows)))
