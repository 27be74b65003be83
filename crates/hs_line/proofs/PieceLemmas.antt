-- Pieces one after another, and one step of a run over them.
use Rattle.std.proofs.Common.{◌≡◌, ℕ, zero, suc, ◌+◌, ◌-◌, ◌<◌, List, [], ◌∷◌, ◌++◌, Some, slice_get, length, take, get_or, refl, sym, ap, ◌∙◌, subst, arith, append_assoc, length-append, min}
use Rattle.std.specs.List.{AllByRecursion}
use Rattle.std.proofs.lemmas.List.{append-nil, take_more}
use Rattle.std.proofs.lemmas.Option.{slice_get_read}
use Rattle.hs_line.specs.declared.pieces.Piece.{Piece}
use Rattle.hs_line.specs.Lines.{lines_of, rest_of}
use Rattle.hs_line.specs.Pieces.{stream_of, held_after, IsDrained}
use Rattle.hs_line.proofs.LinesLemmas.{lines_of-append, rest_of-append, rest_of-line_free, length-lines_of-after}

stream_of-push : (pieces : List Piece) (piece : Piece) → stream_of (pieces ++ piece ∷ []) ≡ stream_of pieces ++ piece.bytes
stream_of-push [] piece = append-nil piece.bytes
stream_of-push (first ∷ pieces) piece = ap (λ (l : List ℕ). first.bytes ++ l) (stream_of-push pieces piece) ∙ sym (append_assoc first.bytes (stream_of pieces) piece.bytes)

held_after-push : (held : ℕ) (pieces : List Piece) (piece : Piece) → held_after held (pieces ++ piece ∷ []) ≡ held_after held pieces + length (lines_of piece.bytes) - piece.takes
held_after-push held [] piece = refl
held_after-push held (first ∷ pieces) piece = held_after-push (held + length (lines_of first.bytes) - first.takes) pieces piece

-- what holds of each piece holds of the one at a place
each_at : (P : Piece → Type 0) (pieces : List Piece) (i : ℕ) (piece : Piece) → slice_get pieces i ≡ Some piece → AllByRecursion P pieces → P piece
each_at P [] i piece is each = absurd (let no : slice_get {X = Piece} [] i ≡ Some piece = is in cc)
each_at P (first ∷ pieces) zero piece is each = let same : first ≡ piece = cc in subst P same each.0
each_at P (first ∷ pieces) (suc i) piece is each = each_at P pieces i piece is each.1

-- the piece at a place joins the pieces before it
module _ (pieces : List Piece) (i : ℕ) (piece : Piece) (within : i < length pieces) (is : piece ≡ get_or pieces i piece) where
  take_next : take (i + 1) pieces ≡ take i pieces ++ piece ∷ []
  take_next = take_more pieces i piece within ∙ ap (λ (p : Piece). take i pieces ++ p ∷ []) (sym is)

  pub stream_of-next : stream_of (take (i + 1) pieces) ≡ stream_of (take i pieces) ++ piece.bytes
  stream_of-next = ap stream_of take_next ∙ stream_of-push (take i pieces) piece

  pub held_after-next : held_after 0 (take (i + 1) pieces) ≡ held_after 0 (take i pieces) + length (lines_of piece.bytes) - piece.takes
  held_after-next = ap (held_after 0) take_next ∙ held_after-push 0 (take i pieces) piece

  pub at_place : slice_get pieces i ≡ Some piece
  at_place = slice_get_read pieces (length pieces) i piece refl within is

  pub IsDrained-at : AllByRecursion IsDrained pieces → IsDrained piece
  IsDrained-at each = each_at IsDrained pieces i piece at_place each

-- lines and rest of a stream that was cut so far, after a piece
module _ (before held bytes : List ℕ) (rest : rest_of held ≡ rest_of before) where
  pub rest_of-step : rest_of (held ++ bytes) ≡ rest_of (before ++ bytes)
  rest_of-step = rest_of-append held bytes ∙ ap (λ (l : List ℕ). rest_of (l ++ bytes)) rest ∙ sym (rest_of-append before bytes)

  pub lines_of-step : (lines : List (List ℕ)) → lines ++ lines_of held ≡ lines_of before → lines ++ lines_of (held ++ bytes) ≡ lines_of (before ++ bytes)
  lines_of-step lines all =
      ap (λ (l : List (List ℕ)). lines ++ l) (lines_of-append held bytes) ∙ sym (append_assoc lines (lines_of held) (lines_of (rest_of held ++ bytes)))
      ∙ ap (λ (l : List (List ℕ)). l ++ lines_of (rest_of held ++ bytes)) all ∙ ap (λ (l : List ℕ). lines_of before ++ lines_of (l ++ bytes)) rest
      ∙ sym (lines_of-append before bytes)

  -- a piece brings the lines that end in it
  pub count-step : length (lines_of (held ++ bytes)) ≡ length (lines_of held) + length (lines_of bytes)
  count-step =
      let later : length (lines_of (rest_of held ++ bytes)) ≡ length (lines_of bytes) = length-lines_of-after (rest_of held) bytes (rest_of-line_free held) in
      ap length (lines_of-append held bytes) ∙ length-append (lines_of held) (lines_of (rest_of held ++ bytes)) ∙ ap (λ (n : ℕ). length (lines_of held) + n) later

-- how many lines are held once some were taken of those that were held
pub left-count : (taken before lines now : List (List ℕ)) (asked : ℕ) → lines ++ now ≡ taken ++ before → length lines ≡ length taken + min asked (length before) → length now ≡ length before - asked
left-count taken before lines now asked same count =
    let sizes : length lines + length now ≡ length taken + length before = sym (length-append lines now) ∙ ap length same ∙ length-append taken before in
    omega (arith, sizes, count)

pub none-left : (lines : List (List ℕ)) → length lines ≡ 0 → lines ≡ []
none-left [] is = refl
none-left (line ∷ lines) is = absurd (omega (arith, is))
