-- What one line of a script does to what is held of it, and what several parts do, one after another.
use Rattle.std.proofs.Common.{◌≡◌, ◌∙◌, ℕ, ◌+◌, Option, IfSome, Ok, Err, List, [], ◌∷◌, ◌++◌, Some, None, refl, sym, ap, subst, append_assoc}
use Rattle.std.proofs.lemmas.List.{append-nil}
use Rattle.hs_line.specs.Lines.{lines_of, rest_of}
use Rattle.hs_line.proofs.LinesLemmas.{lines_of-append, rest_of-append}
use Rattle.hs_outside.specs.Streams.{Taker, Grew, GrewPart}
use Rattle.hs_outside.proofs.Known.{grew_none, grew_two, part_as, part_more, part_none, part_two, rose_from}
use Rattle.replay_script.specs.declared.events.Event.{Event}
use Rattle.replay_script.specs.Events.{event_of}
use Rattle.hs_replay.specs.declared.ends.Flaw.{Flaw}
use Rattle.hs_replay.specs.declared.ends.Flaw.TheVariants.{NoEvent}
use Rattle.hs_replay.specs.declared.ends.Outcome.{Outcome}
use Rattle.hs_replay.specs.declared.ends.Outcome.TheVariants as outcomes
use Rattle.hs_replay.specs.declared.ends.Step.{Step}
use Rattle.hs_replay.specs.declared.ends.Step.TheVariants as steps
use Rattle.hs_replay.specs.Script.{State, event_in, flaw_of, placed, after, printed, text_from, bad_line_from, bad_line}
use Rattle.hs_replay.specs.Running.{Held, to_print, bad_by, rest_by, Leads, IsBad, StepDoes, EventDoes, step_of}

-- ---- the first line

-- the first line of bytes is taken, and this is left
pub record Takes (bytes line left : List ℕ) : Type 0 where
  pub first : lines_of bytes ≡ line ∷ lines_of left
  pub rest : rest_of left ≡ rest_of bytes

lines_on : (bytes line left more : List ℕ) → Takes bytes line left → lines_of (bytes ++ more) ≡ line ∷ lines_of (left ++ more)
lines_on bytes line left more takes =
    lines_of-append bytes more ∙ ap (λ (ls : List (List ℕ)). ls ++ lines_of (rest_of bytes ++ more)) takes.first
    ∙ ap (λ (r : List ℕ). line ∷ (lines_of left ++ lines_of (r ++ more))) (sym takes.rest) ∙ ap (λ (ls : List (List ℕ)). line ∷ ls) (sym (lines_of-append left more))

rest_on : (bytes line left more : List ℕ) → Takes bytes line left → rest_of (bytes ++ more) ≡ rest_of (left ++ more)
rest_on bytes line left more takes =
    rest_of-append bytes more ∙ ap (λ (r : List ℕ). rest_of (r ++ more)) (sym takes.rest) ∙ sym (rest_of-append left more)

-- what is held once the line is taken
abbrev pub with_line : Held → List ℕ → State → Held
with_line h left state = record { bytes = left; lines = h.lines + 1; state = state }

line_text : (h : Held) (line left rest : List ℕ) (event : Event) → Takes h.bytes line left → event_in h.state line ≡ Ok event
    → to_print h rest ≡ printed event h.state ++ to_print (with_line h left (after event h.state)) rest
line_text h line left rest event takes e = rw (lines_on h.bytes line left rest takes, e) refl

line_bad : (h : Held) (line left rest end : List ℕ) (event : Event) → Takes h.bytes line left → event_in h.state line ≡ Ok event
    → bad_by h rest end ≡ bad_by (with_line h left (after event h.state)) rest end
line_bad h line left rest end event takes e = rw (lines_on h.bytes line left rest takes, e) refl

leads_line : (h : Held) (line left : List ℕ) (event : Event) (o p : Taker) → Takes h.bytes line left → event_in h.state line ≡ Ok event
    → Grew o p (printed event h.state) → p.faults ≡ o.faults → Leads h (with_line h left (after event h.state)) o p []
leads_line h line left event o p takes e grew same = record {
  text = printed event h.state;
  prints = λ rest. line_text h line left rest event takes e;
  behind = λ rest. rest_on h.bytes line left rest takes;
  bad = λ rest end. line_bad h line left rest end event takes e;
  grew = grew;
  unfailed = same;
}

part_of_line : (h : Held) (line left : List ℕ) (event : Event) (o p : Taker) → Takes h.bytes line left → event_in h.state line ≡ Ok event
    → GrewPart o p (printed event h.state) → (rest : List ℕ) → GrewPart o p (to_print h ([] ++ rest))
part_of_line h line left event o p takes e part rest =
    part_as o p _ _ (sym (line_text h line left rest event takes e)) (part_more o p (printed event h.state) _ part)

-- an event that has no flaw in its state is the line's there
placed_is : (s : State) (said : Option Event) (event : Event) → said ≡ Some event → flaw_of event s ≡ None → placed s said ≡ Ok event
placed_is s said event e none = rw (e, none) refl

flawed_is : (s : State) (said : Option Event) (event : Event) (flaw : Flaw) → said ≡ Some event → flaw_of event s ≡ Some flaw → placed s said ≡ Err flaw
flawed_is s said event flaw e some = rw (e, some) refl

-- a line that has a flaw
pub line_refused : (h : Held) (line left : List ℕ) (o p : Taker) (flaw : Flaw) → Takes h.bytes line left → event_in h.state line ≡ Err flaw → p ≡ o
    → IsBad h o p [] (bad_line (h.lines + 1) flaw)
line_refused h line left o p flaw takes e same = record {
  text = [];
  prints = λ rest. rw (lines_on h.bytes line left rest takes, e) refl;
  bad = λ rest beyond. rw (lines_on h.bytes line left rest takes, e) refl;
  grew = grew_none o p (ap (λ (t : Taker). t.taken) same);
  unfailed = ap (λ (t : Taker). t.faults) same;
}

-- a line that says an event
pub line_does : (outcome : Outcome) (h : Held) (line left : List ℕ) (event : Event) (state : State) (o p : Taker) → Takes h.bytes line left → event_of line ≡ Some event
    → EventDoes outcome event h.state state o p → StepDoes (step_of (h.lines + 1) outcome) h (with_line h left state) o p []
line_does outcomes.Done h line left event state o p takes e does =
    subst (λ (s : State). Leads h (with_line h left s) o p []) (sym does.1)
    (leads_line h line left event o p takes (placed_is h.state (event_of line) event e does.0) does.2 does.3)
line_does (outcomes.Refused flaw) h line left event state o p takes e does =
    line_refused h line left o p flaw takes (flawed_is h.state (event_of line) event flaw e does.0) does.1
line_does outcomes.Unwritten h line left event state o p takes e does =
    (part_of_line h line left event o p takes (placed_is h.state (event_of line) event e does.0) does.1, does.2)
line_does outcomes.Memory h line left event state o p takes e does =
    (λ rest. part_none o p (to_print h ([] ++ rest)) (ap (λ (t : Taker). t.taken) does), ap (λ (t : Taker). t.faults) does)

-- ---- several parts

pub leads_none : (h : Held) (o : Taker) → Leads h h o o []
leads_none h o = record { text = []; prints = λ rest. refl; behind = λ rest. refl; bad = λ rest end. refl; grew = grew_none o o refl; unfailed = refl }

-- a piece that is held and not looked at yet
pub leads_pushed : (h : Held) (piece : List ℕ) (o : Taker) → Leads h (record h { bytes = h.bytes ++ piece }) o o piece
leads_pushed h piece o = record {
  text = [];
  prints = λ rest. ap (λ (bytes : List ℕ). text_from h.state (lines_of bytes)) (sym (append_assoc h.bytes piece rest));
  behind = λ rest. ap rest_of (sym (append_assoc h.bytes piece rest));
  bad = λ rest end. ap (λ (bytes : List ℕ). bad_line_from h.lines h.state (lines_of bytes) end) (sym (append_assoc h.bytes piece rest));
  grew = grew_none o o refl;
  unfailed = refl;
}

-- nothing else comes of an end than what comes of it, whatever more there is
pub steps_two : (step : Step) (h m n : Held) (o p q : Taker) (xs ys : List ℕ) → Leads h m o p xs → StepDoes step m n p q ys → StepDoes step h n o q (xs ++ ys)
steps_two steps.Done h m n o p q xs ys a b = record {
  text = a.text ++ b.text;
  prints = λ rest.
      ap (to_print h) (append_assoc xs ys rest) ∙ a.prints (ys ++ rest) ∙ ap (λ (t : List ℕ). a.text ++ t) (b.prints rest)
      ∙ sym (append_assoc a.text b.text (to_print n rest));
  behind = λ rest. ap (rest_by h) (append_assoc xs ys rest) ∙ a.behind (ys ++ rest) ∙ b.behind rest;
  bad = λ rest end. ap (λ (bytes : List ℕ). bad_by h bytes end) (append_assoc xs ys rest) ∙ a.bad (ys ++ rest) end ∙ b.bad rest end;
  grew = grew_two o p q a.text b.text a.grew b.grew;
  unfailed = b.unfailed ∙ a.unfailed;
}
steps_two (steps.Bad line) h m n o p q xs ys a b = record {
  text = a.text ++ b.text;
  prints = λ rest. ap (to_print h) (append_assoc xs ys rest) ∙ a.prints (ys ++ rest) ∙ ap (λ (t : List ℕ). a.text ++ t) (b.prints rest);
  bad = λ rest beyond.
      ap (λ (bytes : List ℕ). bad_by h bytes (rest_by h bytes ++ beyond)) (append_assoc xs ys rest)
      ∙ a.bad (ys ++ rest) (rest_by h (xs ++ (ys ++ rest)) ++ beyond)
      ∙ ap (λ (end : List ℕ). bad_by m (ys ++ rest) (end ++ beyond)) (a.behind (ys ++ rest))
      ∙ b.bad rest beyond;
  grew = grew_two o p q a.text b.text a.grew b.grew;
  unfailed = b.unfailed ∙ a.unfailed;
}
steps_two steps.Unwritten h m n o p q xs ys a b = (
  λ rest. part_as o q _ _ (sym (ap (to_print h) (append_assoc xs ys rest) ∙ a.prints (ys ++ rest))) (part_two o p q a.text _ a.grew (b.0 rest)),
  rose_from o.faults p.faults q.faults a.unfailed b.1,
)
steps_two steps.Memory h m n o p q xs ys a b = (
  λ rest. part_as o q _ _ (sym (ap (to_print h) (append_assoc xs ys rest) ∙ a.prints (ys ++ rest))) (part_two o p q a.text _ a.grew (b.0 rest)),
  b.1 ∙ a.unfailed,
)

-- a piece is pushed, and then something comes of what is held
pub after_push : (step : Step) (h n : Held) (piece : List ℕ) (o q : Taker) → StepDoes step (record h { bytes = h.bytes ++ piece }) n o q [] → StepDoes step h n o q piece
after_push step h n piece o q does =
    subst (StepDoes step h n o q) (append-nil piece) (steps_two step h (record h { bytes = h.bytes ++ piece }) n o o q piece [] (leads_pushed h piece o) does)

-- ---- the same, as the code takes the line

pub refused_here : (h self : Held) (line left : List ℕ) (o : Taker) (number : ℕ) → h ≡ self → lines_of h.bytes ≡ line ∷ lines_of left → rest_of left ≡ rest_of h.bytes
    → event_of line ≡ None → number ≡ h.lines + 1 → IsBad self o o [] (bad_line number NoEvent)
refused_here h self line left o number same first rest none is =
    subst (λ (s : Held). IsBad s o o [] (bad_line number NoEvent)) same
    (subst (λ (k : ℕ). IsBad h o o [] (bad_line k NoEvent)) (sym is)
    (line_refused h line left o o NoEvent (record { first = first; rest = rest }) (ap (placed h.state) none) refl))

pub done_here : (outcome : Outcome) (h self : Held) (line left : List ℕ) (event : Event) (state : State) (o p : Taker) (number : ℕ) → h ≡ self → lines_of h.bytes ≡ line ∷ lines_of left
    → rest_of left ≡ rest_of h.bytes → event_of line ≡ Some event → number ≡ h.lines + 1 → EventDoes outcome event h.state state o p
    → StepDoes (step_of number outcome) self (record { bytes = left; lines = number; state = state }) o p []
done_here outcome h self line left event state o p number same first rest said is does =
    subst (λ (s : Held). StepDoes (step_of number outcome) s (record { bytes = left; lines = number; state = state }) o p []) same
    (subst (λ (k : ℕ). StepDoes (step_of k outcome) h (record { bytes = left; lines = k; state = state }) o p []) (sym is)
    (line_does outcome h line left event state o p (record { first = first; rest = rest }) said does))

pub first_of : (o : Option (List ℕ)) (line bytes left : List ℕ) → o ≡ Some line → IfSome o (λ l. lines_of bytes ≡ l ∷ lines_of left) → lines_of bytes ≡ line ∷ lines_of left
first_of o line bytes left is first = subst (λ (p : Option (List ℕ)). IfSome p (λ l. lines_of bytes ≡ l ∷ lines_of left)) is first
