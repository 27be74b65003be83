-- Bytes after the last line: none, a line that isn't whole yet, or one that is too long already.
use Rattle.std.proofs.Common.{◌≡◌, ◌∙◌, ℕ, ◌+◌, ◌<◌, ◌≤◌, true, false, leb, List, [], ◌∷◌, ◌++◌, length, Some, None, Err, refl, sym, ap, subst, arith, append_assoc, length-append, inl, inr}
use Rattle.std.proofs.lemmas.Bool.{cases_Bool, lt-leb, ltb-false, ltb-true}
use Rattle.std.proofs.lemmas.List.{append-nil}
use Rattle.hs_line.specs.Lines.{IsLine, has_lf, lines_of, is_too_long}
use Rattle.hs_line.specs.declared.limits.TheConstants.{MAX_LINE_LEN}
use Rattle.hs_line.proofs.WholeLines.{too_long-none}
use Rattle.hs_line.proofs.LinesLemmas.{has_lf-append, lines_of-none, rest_of-none, lines_of-line, first_line_found, StartsWithLine}
use Rattle.hs_outside.specs.Streams.{Taker}
use Rattle.hs_outside.proofs.Known.{part_as, part_whole}
use Rattle.hs_replay.specs.declared.ends.Step.{Step}
use Rattle.hs_replay.specs.declared.ends.Step.TheVariants as steps
use Rattle.replay_script.specs.Events.{event_of}
use Rattle.hs_replay.specs.declared.ends.Flaw.TheVariants.{NoEvent}
use Rattle.hs_replay.specs.declared.ends.BadLine.{BadLine}
use Rattle.hs_replay.specs.Script.{State, event_in, placed, bad_line, bad_line_from}
use Rattle.hs_replay.specs.Running.{Held, to_print, bad_by, rest_by, Leads, IsBad, StepDoes, IsLongRest, RestIs}
use Rattle.hs_replay.proofs.LineSteps.{after_push}

-- ---- nothing more comes

pub none_printed : (h : Held) → IsLine h.bytes → to_print h [] ≡ []
none_printed h line = rw (append-nil h.bytes, lines_of-none h.bytes line) refl

pub bad_at_end : (h : Held) (end : List ℕ) → IsLine h.bytes → bad_by h [] end ≡ bad_line_from h.lines h.state [] end
bad_at_end h end line = rw (append-nil h.bytes, lines_of-none h.bytes line) refl

pub rest_at_end : (h : Held) → IsLine h.bytes → rest_by h [] ≡ h.bytes
rest_at_end h line = rw (append-nil h.bytes, rest_of-none h.bytes line) refl

pub bad_with_bytes : (n : ℕ) (bytes : List ℕ) (s : State) → 0 < length bytes → bad_line_from n s [] bytes ≡ Some (bad_line (n + 1) NoEvent)
bad_with_bytes n [] s lt = absurd (omega arith)
bad_with_bytes n (b ∷ bytes) s lt = refl

-- ---- a line that is too long

long_is_none : (line : List ℕ) → MAX_LINE_LEN < length line → event_of line ≡ None
long_is_none line lt = let long : leb (length line) MAX_LINE_LEN ≡ false = lt-leb (length line) MAX_LINE_LEN lt in rw long refl

long_line : (s : State) (line : List ℕ) → MAX_LINE_LEN < length line → event_in s line ≡ Err NoEvent
long_line s line lt = ap (placed s) (long_is_none line lt)

-- what a line that is too long comes to, whatever follows
pub record ComesToNothing (h : Held) (rest : List ℕ) : Type 0 where
  pub text : to_print h rest ≡ []
  pub bad : (beyond : List ℕ) → bad_by h rest (rest_by h rest ++ beyond) ≡ Some (bad_line (h.lines + 1) NoEvent)

unended : (h : Held) (rest : List ℕ) → IsLine h.bytes → IsLine rest → IsLongRest h → ComesToNothing h rest
unended h rest line more long =
    let all : IsLine (h.bytes ++ rest) = has_lf-append h.bytes rest ∙ rw (line, more) refl in
    record {
      text = rw (lines_of-none (h.bytes ++ rest) all) refl;
      bad = λ beyond.
          rw (lines_of-none (h.bytes ++ rest) all, rest_of-none (h.bytes ++ rest) all)
          (bad_with_bytes h.lines ((h.bytes ++ rest) ++ beyond) h.state (omega (arith, length-append h.bytes rest, length-append (h.bytes ++ rest) beyond)));
    }

ended : (h : Held) (rest : List ℕ) → IsLine h.bytes → StartsWithLine rest → IsLongRest h → ComesToNothing h rest
ended h rest line starts long =
    let first = h.bytes ++ starts.line in
    let all : IsLine first = has_lf-append h.bytes starts.line ∙ rw (line, starts.is_line) refl in
    let parts : h.bytes ++ rest ≡ first ++ 10 ∷ starts.more = ap (λ (r : List ℕ). h.bytes ++ r) starts.parts ∙ sym (append_assoc h.bytes starts.line (10 ∷ starts.more)) in
    let lines : lines_of (h.bytes ++ rest) ≡ first ∷ lines_of starts.more = ap lines_of parts ∙ lines_of-line first starts.more all in
    let refused : event_in h.state first ≡ Err NoEvent = long_line h.state first (omega (arith, length-append h.bytes starts.line)) in
    record { text = rw (lines, refused) refl; bad = λ beyond. rw (lines, refused) refl }

pub too_long : (h : Held) (rest : List ℕ) → IsLine h.bytes → IsLongRest h → ComesToNothing h rest
too_long h rest line long =
    elim (cases_Bool (has_lf rest)) [
      | inl there ↦ ended h rest line (first_line_found rest there) long
      | inr none ↦ unended h rest line none long
    ]

-- lines were carried out, and the one behind them is too long
pub long_rest : (h n : Held) (o p : Taker) (bytes : List ℕ) → Leads h n o p bytes → IsLine n.bytes → IsLongRest n → IsBad h o p bytes (bad_line (n.lines + 1) NoEvent)
long_rest h n o p bytes a line long = record {
  text = a.text;
  prints = λ rest. a.prints rest ∙ ap (λ (t : List ℕ). a.text ++ t) ((too_long n rest line long).text) ∙ append-nil a.text;
  bad = λ rest beyond.
      a.bad rest (rest_by h (bytes ++ rest) ++ beyond) ∙ ap (λ (end : List ℕ). bad_by n rest (end ++ beyond)) (a.behind rest)
      ∙ (too_long n rest line long).bad beyond;
  grew = a.grew;
  unfailed = a.unfailed;
}

pub not_long : (bytes : List ℕ) → IsLine bytes → is_too_long bytes ≡ false → length bytes ≤ MAX_LINE_LEN
not_long bytes line short = ltb-false MAX_LINE_LEN (length bytes) (sym (too_long-none MAX_LINE_LEN bytes line) ∙ short)

pub is_long : (bytes : List ℕ) → IsLine bytes → is_too_long bytes ≡ true → MAX_LINE_LEN < length bytes
is_long bytes line long = ltb-true MAX_LINE_LEN (length bytes) (sym (too_long-none MAX_LINE_LEN bytes line) ∙ long)

-- ---- the same, as the code looks at what is held

piece_and_rest : (step : Step) (h new : Held) (piece : List ℕ) (o q : Taker) → Leads h new o q piece → IsLine new.bytes → RestIs step new → StepDoes step h new o q piece
piece_and_rest steps.Done h new piece o q leads line rest = leads
piece_and_rest (steps.Bad bad) h new piece o q leads line rest = subst (λ (b : BadLine). IsBad h o q piece b) (sym rest.1) (long_rest h new o q piece leads line rest.0)
piece_and_rest steps.Unwritten h new piece o q leads line rest = absurd rest
piece_and_rest steps.Memory h new piece o q leads line rest =
    (λ more. part_as o q _ _ (sym (leads.prints more)) (part_whole o q leads.text (to_print new more) leads.grew), leads.unfailed)

-- a piece is pushed, its lines are carried out, and the rest is looked at
pub piece_done : (step : Step) (h self new : Held) (pushed piece : List ℕ) (o q : Taker) → h ≡ self → pushed ≡ h.bytes ++ piece → Leads (record h { bytes = pushed }) new o q []
    → IsLine new.bytes → RestIs step new → StepDoes step self new o q piece
piece_done step h self new pushed piece o q same is leads line rest =
    subst (λ (s : Held). StepDoes step s new o q piece) same
    (piece_and_rest step h new piece o q (after_push steps.Done h new piece o q (subst (λ (b : List ℕ). Leads (record h { bytes = b }) new o q []) is leads)) line rest)

-- a piece is pushed, and its lines end early
pub piece_ends : (step : Step) (h self new : Held) (pushed piece : List ℕ) (o q : Taker) → h ≡ self → pushed ≡ h.bytes ++ piece → StepDoes step (record h { bytes = pushed }) new o q []
    → StepDoes step self new o q piece
piece_ends step h self new pushed piece o q same is does =
    subst (λ (s : Held). StepDoes step s new o q piece) same
    (after_push step h new piece o q (subst (λ (b : List ℕ). StepDoes step (record h { bytes = b }) new o q []) is does))
