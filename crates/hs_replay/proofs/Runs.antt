-- A run that has come some way, and how it goes on and ends.
use Rattle.std.proofs.Common.{◌≡◌, ◌∙◌, ℕ, zero, suc, ◌+◌, ◌-◌, ◌<◌, ◌≤◌, List, [], ◌∷◌, ◌++◌, length, take, drop, Option, None, Some, refl, sym, ap, ap₂, subst, arith, append_assoc, length-append}
use Rattle.std.specs.Io.KnownBytes.{prepend_known}
use Rattle.std.specs.Prelude.{unwrap_or, min}
use Rattle.std.proofs.Math.Seq.{take-append-add, drop-append-add}
use Rattle.std.proofs.lemmas.List.{append-nil, length-take, take-append-drop}
use Rattle.hs_line.specs.Lines.{IsLine, lines_of, rest_of}
use Rattle.hs_line.specs.declared.limits.TheConstants.{MAX_LINE_LEN}
use Rattle.hs_outside.specs.Streams.{Giver, Taker, Gave, Grew, GrewPart, Rose, ReadDoes}
use Rattle.hs_outside.specs.declared.sources.Read.TheVariants as reads
use Rattle.hs_outside.proofs.Known.{grew_none, grew_as, part_as, part_whole, gave_two, gave_same, all_of, all_given, all_same, rose_from}
use Rattle.hs_replay.specs.declared.ends.Flaw.TheVariants.{NoEvent}
use Rattle.hs_replay.specs.declared.ends.BadLine.{BadLine}
use Rattle.hs_replay.specs.declared.ends.Step.TheVariants as steps
use Rattle.hs_replay.specs.declared.ends.Ending.{Ending}
use Rattle.hs_replay.specs.declared.ends.Ending.TheVariants as endings
use Rattle.hs_replay.specs.Script as script
use Rattle.hs_replay.specs.Script.{most_script, script_text, bad_line, bad_line_of, bad_whole_line_of, bad_line_from, text_from}
use Rattle.hs_replay.specs.Running.{Held, start, to_print, bad_by, rest_by, Leads, IsBad, StepDoes, NextBad, HeldEnds}
use Rattle.hs_replay.specs.Ends.{HasBadLine, IsUnread, IsCut, Ends}
use Rattle.hs_replay.proofs.LineSteps.{steps_two, leads_none}
use Rattle.hs_replay.proofs.Rests.{none_printed, bad_at_end, rest_at_end, bad_with_bytes}

-- ---- the bytes that count

take_none : (n : ℕ) → ◌≡◌ {A = List ℕ} (take n []) []
take_none zero = refl
take_none (suc n) = refl

drop_none : (n : ℕ) → ◌≡◌ {A = List ℕ} (drop n []) []
drop_none zero = refl
drop_none (suc n) = refl

-- of bytes whose first ones leave so many, these count
module _ (front tail : List ℕ) (left : ℕ) (counted : length front + left ≡ most_script) where
  taken : take most_script (front ++ tail) ≡ front ++ take left tail
  taken = ap (λ (n : ℕ). take n (front ++ tail)) (sym counted) ∙ take-append-add front tail left

  dropped : drop most_script (front ++ tail) ≡ drop left tail
  dropped = ap (λ (n : ℕ). drop n (front ++ tail)) (sym counted) ∙ drop-append-add front tail left

  text_is : script_text (front ++ tail) ≡ to_print start (front ++ take left tail)
  text_is = ap (λ (bytes : List ℕ). text_from script.start (lines_of bytes)) taken

  bad_is : bad_line_of (front ++ tail) ≡ bad_by start (front ++ take left tail) (rest_by start (front ++ take left tail) ++ drop left tail)
  bad_is = ap₂ (λ (bytes beyond : List ℕ). bad_line_from 0 script.start (lines_of bytes) (rest_of bytes ++ beyond)) taken dropped

-- a piece that was read: the bytes of it that count, and those beyond
pub record IsSplit (piece fit over : List ℕ) (left more : ℕ) : Type 0 where
  pub is : piece ≡ fit ++ over
  pub counted : length fit + more ≡ left

-- ---- a run on its way

-- these bytes were read and carried out, with no fault, but for a line that isn't whole yet; so many more count
pub record Partway (s t : Giver) (o p : Taker) (h : Held) (left : ℕ) : Type 0 where
  pub bytes : List ℕ
  pub counted : length bytes + left ≡ most_script
  pub gave : Gave s t bytes
  pub leads : Leads start h o p bytes
  pub none_unread : t.faults ≡ s.faults
  pub drained : IsLine h.bytes
  pub room : length h.bytes ≤ MAX_LINE_LEN

-- one more piece was read, and all of it counts
pub gone_on : (s t u : Giver) (o p q : Taker) (h new : Held) (piece : List ℕ) (left more : ℕ) → Partway s t o p h left → length piece + more ≡ left → Gave t u piece → u.faults ≡ t.faults
    → Leads h new p q piece → IsLine new.bytes → length new.bytes ≤ MAX_LINE_LEN → Partway s u o q new more
gone_on s t u o p q h new piece left more way counts gave same leads drained room = record {
  bytes = way.bytes ++ piece;
  counted = omega (arith, length-append way.bytes piece, way.counted, counts);
  gave = gave_two s t u way.bytes piece way.gave gave;
  leads = steps_two steps.Done start h new o p q way.bytes piece way.leads leads;
  none_unread = same ∙ way.none_unread;
  drained = drained;
  room = room;
}

-- ---- a piece at which it ends

module _ (s t u : Giver) (o p q : Taker) (h new : Held) (piece fit over : List ℕ) (left more : ℕ) (way : Partway s t o p h left) (split : IsSplit piece fit over left more) (gave : Gave t u piece) (same : u.faults ≡ t.faults) where
  abbrev front : List ℕ
  front = way.bytes ++ fit

  abbrev given : List ℕ
  given = way.bytes ++ piece

  abbrev rest : List ℕ
  rest = unwrap_or u.left []

  gives : Gave s u given
  gives = gave_two s t u way.bytes piece way.gave gave

  counted_front : length front + more ≡ most_script
  counted_front = omega (arith, length-append way.bytes fit, way.counted, split.counted)

  given_is : given ≡ front ++ over
  given_is = ap (λ (bytes : List ℕ). way.bytes ++ bytes) split.is ∙ sym (append_assoc way.bytes fit over)

  whole_is : given ++ rest ≡ front ++ (over ++ rest)
  whole_is = ap (λ (bytes : List ℕ). bytes ++ rest) given_is ∙ append_assoc front over rest

  -- a line is bad
  pub ends_bad : (line : BadLine) → StepDoes (steps.Bad line) h new p q fit → HasBadLine line s u o q
  ends_bad line does =
      let both : IsBad start o q front line = steps_two (steps.Bad line) start h new o p q way.bytes fit way.leads does in
      let tail = over ++ rest in
      record {
        bytes = given ++ rest;
        all = all_of s u given gives;
        given = given;
        gave = gives;
        bad = ap bad_line_of whole_is ∙ bad_is front tail more counted_front ∙ both.bad (take more tail) (drop more tail);
        text = grew_as o q both.text _ (sym (ap script_text whole_is ∙ text_is front tail more counted_front ∙ both.prints (take more tail))) both.grew;
        none_unread = same ∙ way.none_unread;
        none_unwritten = both.unfailed;
      }

  -- a front of what the lines that were read print was printed
  cut_here : ((behind : List ℕ) → GrewPart o q (to_print start (front ++ behind))) → IsCut s u o q
  cut_here parts = record {
    given = given;
    gave = gives;
    text = part_as o q _ _ (sym (ap script_text given_is ∙ text_is front over more counted_front)) (parts (take more over));
    none_unread = same ∙ way.none_unread;
  }

  pub ends_memory : StepDoes steps.Memory h new p q fit → IsCut s u o q × (q.faults ≡ o.faults)
  ends_memory does =
      let both = steps_two steps.Memory start h new o p q way.bytes fit way.leads does in
      (cut_here both.0, both.1)

  pub ends_unwritten : StepDoes steps.Unwritten h new p q fit → IsCut s u o q × Rose o.faults q.faults
  ends_unwritten does =
      let both = steps_two steps.Unwritten start h new o p q way.bytes fit way.leads does in
      (cut_here both.0, both.1)

  -- the bytes that count were carried out, and there is one beyond
  beyond_bad : (line : BadLine) → more ≡ 0 → 0 < length over → Leads h new p q fit → IsLine new.bytes → line ≡ bad_line (new.lines + 1) NoEvent → HasBadLine line s u o q
  beyond_bad line none some does drained is =
      let both : Leads start new o q front = steps_two steps.Done start h new o p q way.bytes fit way.leads does in
      let tail = over ++ rest in
      let full : length front + 0 ≡ most_script = ap (λ (n : ℕ). length front + n) (sym none) ∙ counted_front in
      let end = rest_by start (front ++ []) ++ tail in
      let some_end : 0 < length end = omega (arith, some, length-append (rest_by start (front ++ [])) tail, length-append over rest) in
      let text = both.text in
      record {
        bytes = given ++ rest;
        all = all_of s u given gives;
        given = given;
        gave = gives;
        bad =
            ap bad_line_of whole_is ∙ bad_is front tail 0 full ∙ both.bad [] end ∙ bad_at_end new end drained
            ∙ bad_with_bytes new.lines end new.state some_end ∙ ap Some (sym is);
        text =
            grew_as o q text _
            (sym (ap script_text whole_is ∙ text_is front tail 0 full ∙ both.prints [] ∙ ap (λ (t : List ℕ). text ++ t) (none_printed new drained) ∙ append-nil text))
            both.grew;
        none_unread = same ∙ way.none_unread;
        none_unwritten = both.unfailed;
      }

  beyond_cut : Leads h new p q fit → IsCut s u o q × (q.faults ≡ o.faults)
  beyond_cut does =
      let both : Leads start new o q front = steps_two steps.Done start h new o p q way.bytes fit way.leads does in
      (cut_here (λ behind. part_as o q _ _ (sym (both.prints behind)) (part_whole o q both.text (to_print new behind) both.grew)), both.unfailed)

  pub ends_beyond : (ending : Ending) → more ≡ 0 → 0 < length over → Leads h new p q fit → IsLine new.bytes → NextBad ending new → Ends ending s u o q
  ends_beyond endings.Whole none some does drained is = absurd is
  ends_beyond (endings.Bad line) none some does drained is = beyond_bad line none some does drained is
  ends_beyond endings.Unread none some does drained is = absurd is
  ends_beyond endings.Unwritten none some does drained is = absurd is
  ends_beyond endings.Memory none some does drained is = beyond_cut does

-- ---- a run that reads no more

module _ (s t : Giver) (o p : Taker) (h : Held) (left : ℕ) (way : Partway s t o p h left) where
  whole : way.bytes ≡ way.bytes ++ []
  whole = sym (append-nil way.bytes)

  -- nothing is printed for the line that isn't whole
  text_so_far : Grew o p (script_text way.bytes)
  text_so_far =
      let text = way.leads.text in
      grew_as o p text (script_text way.bytes)
      (sym (ap script_text whole ∙ text_is way.bytes [] left way.counted ∙ ap (λ (b : List ℕ). to_print start (way.bytes ++ b)) (take_none left)
      ∙ way.leads.prints [] ∙ ap (λ (t : List ℕ). text ++ t) (none_printed h way.drained) ∙ append-nil text))
      way.leads.grew

  -- the whole lines are good, and what is held stands behind them
  bad_so_far : bad_line_of way.bytes ≡ bad_line_from h.lines h.state [] h.bytes
  bad_so_far =
      ap bad_line_of whole ∙ bad_is way.bytes [] left way.counted
      ∙ ap₂ (λ (none beyond : List ℕ). bad_by start (way.bytes ++ none) (rest_by start (way.bytes ++ none) ++ beyond)) (take_none left) (drop_none left)
      ∙ way.leads.bad [] (rest_by start (way.bytes ++ []) ++ [])
      ∙ ap (bad_by h []) (append-nil (rest_by start (way.bytes ++ [])) ∙ way.leads.behind [] ∙ rest_at_end h way.drained)
      ∙ bad_at_end h h.bytes way.drained

  none_whole_bad : bad_whole_line_of way.bytes ≡ None
  none_whole_bad =
      ap bad_whole_line_of whole
      ∙ ap (λ (bytes : List ℕ). bad_line_from 0 script.start (lines_of bytes) []) (taken way.bytes [] left way.counted ∙ ap (λ (none : List ℕ). way.bytes ++ none) (take_none left))
      ∙ way.leads.bad [] [] ∙ bad_at_end h [] way.drained

  pub ends_unread : (u : Giver) → ReadDoes reads.Failed t u [] → IsUnread s u o p
  ends_unread u does = record {
    bytes = way.bytes;
    gave = gave_same s t u way.bytes way.gave does.0;
    none_bad = none_whole_bad;
    rose = rose_from s.faults t.faults u.faults way.none_unread does.2;
    text = text_so_far;
    none_unwritten = way.leads.unfailed;
  }

  cut_so_far : (u : Giver) → Gave s u way.bytes → u.faults ≡ s.faults → IsCut s u o p × (p.faults ≡ o.faults)
  cut_so_far u gave same = (
    record {
      given = way.bytes;
      gave = gave;
      text = record { part = script_text way.bytes; more = []; is = sym (append-nil (script_text way.bytes)); grew = text_so_far };
      none_unread = same;
    },
    way.leads.unfailed,
  )

  pub ends_at_end : (ending : Ending) (u : Giver) → ReadDoes reads.End t u [] → HeldEnds ending h → Ends ending s u o p
  ends_at_end endings.Whole u does held = record {
    bytes = way.bytes;
    all = all_given s t way.bytes way.gave does.0;
    gave = gave_same s t u way.bytes way.gave does.1;
    none_left = all_same t u [] does.1 does.0;
    is_ended = does.2;
    none_bad = bad_so_far ∙ ap (bad_line_from h.lines h.state []) held;
    text = text_so_far;
    none_unread = does.3 ∙ way.none_unread;
    none_unwritten = way.leads.unfailed;
  }
  ends_at_end (endings.Bad line) u does held = record {
    bytes = way.bytes;
    all = all_given s t way.bytes way.gave does.0;
    given = way.bytes;
    gave = gave_same s t u way.bytes way.gave does.1;
    bad = bad_so_far ∙ bad_with_bytes h.lines h.bytes h.state held.0 ∙ ap Some (sym held.1);
    text = text_so_far;
    none_unread = does.3 ∙ way.none_unread;
    none_unwritten = way.leads.unfailed;
  }
  ends_at_end endings.Unread u does held = absurd held.1
  ends_at_end endings.Unwritten u does held = absurd held.1
  ends_at_end endings.Memory u does held = cut_so_far u (gave_same s t u way.bytes way.gave does.1) (does.3 ∙ way.none_unread)

-- ---- nothing was read yet

gave_none : (s : Giver) → Gave s s []
gave_none s = known s.left where
  known : (o : Option (List ℕ)) → o ≡ prepend_known [] o
  known None = refl
  known (Some t) = refl

pub way_at_start : (s : Giver) (o : Taker) (h : Held) → h ≡ start → Partway s s o o h most_script
way_at_start s o h is = subst (λ (k : Held). Partway s s o o k most_script) (sym is) (record {
  bytes = [];
  counted = refl;
  gave = gave_none s;
  leads = leads_none start o;
  none_unread = refl;
  drained = refl;
  room = omega arith;
})

-- nothing was read and nothing will be
pub ends_before : (s : Giver) (o : Taker) → IsCut s s o o × (o.faults ≡ o.faults)
ends_before s o = (
  record { given = []; gave = gave_none s; text = record { part = []; more = []; is = refl; grew = grew_none o o refl }; none_unread = refl },
  refl,
)

-- ---- the same, as the code cuts what it read

-- the front of a buffer that was read, of which some counts
pub splits : (buffer : List ℕ) (count left fits : ℕ) → count ≤ length buffer → fits ≡ min count left → IsSplit (take count buffer) (take fits buffer) (drop fits (take count buffer)) left (left - fits)
splits buffer count left fits within is = record {
  is = sym (take-append-drop fits (take count buffer)) ∙ ap (λ (front : List ℕ). front ++ drop fits (take count buffer)) (take_less fits count buffer (omega (arith, is)));
  counted = omega (arith, length-take fits buffer, within, is);
} where
  take_less : (n m : ℕ) (xs : List ℕ) → n ≤ m → take n (take m xs) ≡ take n xs
  take_less zero m xs less = refl
  take_less (suc n) zero xs less = absurd (omega (arith, less))
  take_less (suc n) (suc m) [] less = refl
  take_less (suc n) (suc m) (x ∷ xs) less = ap (λ (ys : List ℕ). x ∷ ys) (take_less n m xs (omega (arith, less)))
