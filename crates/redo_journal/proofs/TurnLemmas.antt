-- What a root and a segment behind a journal without a root, and then the gate, make of an image.
use Rattle.std.proofs.Common.{◌≡◌, ◌≢◌, inl, inr, ℕ, ◌+◌, ◌-◌, ◌^◌, ◌<◌, ◌≤◌, List, [], ◌∷◌, ◌++◌, length, subst, arith}
use Rattle.std.specs.Prelude.{Option, None, Some}
use Rattle.std.specs.Int.{w64, to_be_bytes}
use Rattle.std.proofs.lemmas.Bool.{cases_eq}
use Rattle.hs_disk.specs.Disk.{written, Torn}
use Rattle.redo_journal.specs.Bytes.{StandsAt, front}
use Rattle.redo_journal.specs.Gates.{TornFrom}
use Rattle.redo_journal.specs.Image.{Contents, IsForm, IsPlain, area_alone}
use Rattle.redo_journal.specs.Journal.{Standing, IsOf, InDoubt}
use Rattle.redo_journal.specs.Root.{new_root, root_mark}
use Rattle.redo_journal.specs.Segment.{IsSegment}
use Rattle.redo_journal.proofs.AppendLemmas.{image_kept, gate_within}
use Rattle.redo_journal.proofs.FormLemmas.{form_kept}
use Rattle.redo_journal.proofs.SegmentLemmas.{cell_holds, names_segment, turned}
use Rattle.redo_journal.proofs.StandLemmas.{kept, stands_join, stands_split, stands_written, torn_written, length-written}

-- a journal without a root, and no byte in doubt
abbrev pub plain : ℕ → ℕ → ℕ → Standing
plain gate first since = record { gate = gate; first = first; since = since; root = None; doubt = None }

-- its length, its payload and a closed gate
abbrev pub root_bytes : ℕ → List ℕ
root_bytes live = 0 ∷ 0 ∷ 0 ∷ 21 ∷ 255 ∷ 255 ∷ 255 ∷ 255 ∷ 0 ∷ (to_be_bytes w64 live ++ to_be_bytes w64 live ++ 0 ∷ [])

plain_of : (text : List ℕ) (first : ℕ) (payloads : List (List ℕ)) (area : Option (List ℕ)) (gate : ℕ) (image : List ℕ) → IsForm text first payloads area None gate image → IsPlain text payloads gate image
plain_of text first payloads None gate image is = is.1
plain_of text first payloads (Some area) gate image is = absurd is

module _ (text : List ℕ) (contents : Contents) (gate first since : ℕ) where
  abbrev pub Is : List ℕ → Type 0
  Is = IsOf text contents (plain gate first since)

  pub both_kept : (n m : ℕ) (images : List ℕ → Type 0) (image : List ℕ) → ((i : List ℕ) → images i → Is i) → TornFrom (gate + 27) m (TornFrom (gate + 1) n images) image → Is image
  both_kept n m images image was from =
      image_kept (gate + 27) m from.earlier image from.torn text contents (plain gate first since) (omega arith)
      (image_kept (gate + 1) n from.was.earlier from.earlier from.was.torn text contents (plain gate first since) (omega arith) (was from.was.earlier from.was.was))

  -- both are written, and the gate isn't yet
  pub record Laid (bytes image : List ℕ) : Type 0 where
    pub of : Is image
    pub root : StandsAt (gate + 1) (root_bytes (gate + 27)) image
    pub segment : StandsAt (gate + 27) bytes image

  pub laid : (bytes seen : List ℕ) → Is seen → Laid bytes (written (gate + 27) bytes (written (gate + 1) (root_bytes (gate + 27)) seen))
  laid bytes seen was = record {
    of = image_kept (gate + 27) (length bytes) mid image behind text contents (plain gate first since) (omega arith)
        (image_kept (gate + 1) 26 seen mid torn text contents (plain gate first since) (omega arith) was);
    root = kept (gate + 27) (length bytes) (gate + 1) (root_bytes (gate + 27)) mid image behind (inl (omega arith)) (stands_written (gate + 1) (root_bytes (gate + 27)) seen within);
    segment = stands_written (gate + 27) bytes mid far;
  }
    where
      mid : List ℕ
      mid = written (gate + 1) (root_bytes (gate + 27)) seen

      image : List ℕ
      image = written (gate + 27) bytes mid

      within : gate + 1 ≤ length seen
      within = omega (arith, gate_within text contents (plain gate first since) seen was)

      torn : Torn (gate + 1) 26 seen mid
      torn = torn_written (gate + 1) (root_bytes (gate + 27)) seen within

      far : gate + 27 ≤ length mid
      far = omega (arith, length-written (gate + 1) (root_bytes (gate + 27)) seen within)

      behind : Torn (gate + 27) (length bytes) mid image
      behind = torn_written (gate + 27) bytes mid far

  module _ (number : ℕ) (area bytes image : List ℕ) (is : IsSegment number area bytes) (fits : gate + 27 < 2 ^ 64) (was : Laid bytes image) (byte : ℕ) where
    abbrev pub now : List ℕ
    now = written gate (byte ∷ []) image

    within : gate ≤ length image
    within = omega (arith, gate_within text contents (plain gate first since) image was.of)

    torn : Torn gate 1 image now
    torn = torn_written gate (byte ∷ []) image within

    gate_stands : StandsAt gate (byte ∷ []) now
    gate_stands = stands_written gate (byte ∷ []) image within

    form : IsForm text contents.first contents.payloads contents.area None gate now
    form = form_kept gate 1 image now torn text contents.first contents.payloads contents.area None gate (omega arith) was.of.is.form

    -- another gate than 1 ends what stands before it
    pub stays_shut : byte ≢ 1 → Is now
    stays_shut closed = record {
      is = record {
        text_fits = was.of.is.text_fits;
        payloads_fit = was.of.is.payloads_fit;
        form = form;
        shut = record { gate = byte; stands = gate_stands; closed = closed };
      };
      first = was.of.first;
      since = was.of.since;
    }

    head : List ℕ
    head = 0 ∷ 0 ∷ 0 ∷ 21 ∷ 255 ∷ 255 ∷ 255 ∷ 255 ∷ []

    tail : List ℕ
    tail = to_be_bytes w64 (gate + 27) ++ to_be_bytes w64 (gate + 27) ++ 0 ∷ []

    -- and 1 opens the root, which names the segment
    pub opens_root : byte ≡ 1 → IsOf text (area_alone number area) (turned (new_root gate) bytes) now
    unfolding head tail
    opens_root is_open =
        names_segment text number area bytes (new_root gate) now was.of.is.text_fits is
        (record {
          before = contents.payloads;
          before_fit = was.of.is.payloads_fit;
          none_is_root = plain_form.none_is_root;
          gate_is = plain_form.gate_is;
          stands = stands_join 0 (front text contents.payloads) root_mark now plain_form.stands (subst (λ (g : ℕ). StandsAt g root_mark now) (omega (arith, plain_form.gate_is)) mark);
        })
        (record { selector = 0; stands = subst (λ (g : ℕ). StandsAt g (0 ∷ []) now) (omega arith) selector.0; low_bit = omega arith })
        (cell_holds (new_root gate) now fits (subst (λ (g : ℕ). StandsAt g (to_be_bytes w64 (gate + 27)) now) (omega arith) cell))
        (omega arith)
        (kept gate 1 (gate + 27) bytes image now torn (inr (omega arith)) was.segment)
      where
        plain_form : IsPlain text contents.payloads gate now
        plain_form = plain_of text contents.first contents.payloads contents.area gate now form

        root : StandsAt (gate + 1) (root_bytes (gate + 27)) now
        root = kept gate 1 (gate + 1) (root_bytes (gate + 27)) image now torn (inr (omega arith)) was.root

        parts : StandsAt (gate + 1) head now × StandsAt (gate + 1 + 8) (0 ∷ tail) now
        parts = stands_split (gate + 1) head (0 ∷ tail) now root

        selector : StandsAt (gate + 1 + 8) (0 ∷ []) now × StandsAt (gate + 1 + 8 + 1) tail now
        selector = stands_split (gate + 1 + 8) (0 ∷ []) tail now parts.1

        cell : StandsAt (gate + 1 + 8 + 1) (to_be_bytes w64 (gate + 27)) now
        cell = (stands_split (gate + 1 + 8 + 1) (to_be_bytes w64 (gate + 27)) (to_be_bytes w64 (gate + 27) ++ 0 ∷ []) now selector.1).0

        mark : StandsAt gate root_mark now
        mark = stands_join gate (1 ∷ []) head now (subst (λ (b : ℕ). StandsAt gate (b ∷ []) now) is_open gate_stands) parts.0

  -- so the gate is in doubt
  pub laid_doubt : (number : ℕ) (area bytes image : List ℕ) → IsSegment number area bytes → gate + 27 < 2 ^ 64 → Laid bytes image → InDoubt text contents (area_alone number area) (plain gate first since) (record { place = gate; byte = 0 }) image
  laid_doubt number area bytes image is fits was = record {
    within = gate_within text contents (plain gate first since) image was.of;
    either = λ byte. elim (cases_eq byte 1) [
      | inl is_open ↦ inr (record { root = Some (new_root gate); gate = gate + 27 + (length bytes - 1); is = (opens_root number area bytes image is fits was byte is_open).is })
      | inr shut ↦ inl (record { root = None; gate = gate; is = (stays_shut number area bytes image is fits was byte shut).is })
    ];
    back = stays_shut number area bytes image is fits was 0 (omega arith);
  }

pub as_plain : (journal : Standing) → journal.root ≡ None → journal.doubt ≡ None → journal ≡ plain journal.gate journal.first journal.since
as_plain journal none quiet = λ i. record { gate = journal.gate; first = journal.first; since = journal.since; root = none i; doubt = quiet i }
