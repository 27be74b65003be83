-- What a record that is written behind the last gate, and then that gate, make of an image.
use Rattle.std.proofs.Common.{◌≡◌, ◌≢◌, inl, inr, ℕ, ◌+◌, ◌^◌, ◌<◌, ◌≤◌, List, [], ◌∷◌, ◌++◌, length, ap, subst, arith}
use Rattle.std.specs.Prelude.{None}
use Rattle.std.specs.Int.{w32, to_be_bytes}
use Rattle.std.proofs.lemmas.Bool.{cases_eq}
use Rattle.hs_disk.specs.Disk.{written, Torn}
use Rattle.redo_journal.specs.Bytes.{FitsLength, StandsAt, counted}
use Rattle.redo_journal.specs.Image.{Contents, added}
use Rattle.redo_journal.specs.Journal.{Standing, IsOf, InDoubt, records}
use Rattle.redo_journal.specs.Root.{IsRoot}
use Rattle.redo_journal.proofs.FormLemmas.{form_kept, form_push, length-counted, length-push, all-push}
use Rattle.redo_journal.proofs.StandLemmas.{kept, closed_kept, closed_within, stands_split, stands_join, stands_written, torn_written}

pub counted_is : (head payload : List ℕ) → head ≡ to_be_bytes w32 (length payload) → head ++ payload ≡ counted payload
unfolding counted
counted_is head payload is = ap (λ (l : List ℕ). l ++ payload) is

-- a write behind the last gate
pub image_kept : (at n : ℕ) (earlier image : List ℕ) → Torn at n earlier image → (text : List ℕ) (contents : Contents) (journal : Standing) → journal.gate + 1 ≤ at → IsOf text contents journal earlier → IsOf text contents journal image
image_kept at n earlier image torn text contents journal behind was = record {
  is = record {
    text_fits = was.is.text_fits;
    payloads_fit = was.is.payloads_fit;
    form = form_kept at n earlier image torn text contents.first contents.payloads contents.area journal.root journal.gate (omega (arith, behind)) was.is.form;
    shut = closed_kept at n journal.gate earlier image torn (inl behind) was.is.shut;
  };
  first = was.first;
  since = was.since;
}

pub gate_within : (text : List ℕ) (contents : Contents) (journal : Standing) (image : List ℕ) → IsOf text contents journal image → journal.gate < length image
gate_within text contents journal image is = closed_within journal.gate image is.is.shut

-- a record stands whole behind a closed gate
pub record Laid (text : List ℕ) (contents : Contents) (payload : List ℕ) (journal : Standing) (image : List ℕ) : Type 0 where
  pub of : IsOf text contents journal image
  pub behind : StandsAt (journal.gate + 1) (counted payload ++ 0 ∷ []) image

-- a journal behind one record more
abbrev pub one_more : Standing → List ℕ → Standing
one_more journal payload = record {
  gate = journal.gate + (5 + length payload);
  first = journal.first;
  since = journal.since + 1;
  root = journal.root;
  doubt = None;
}

pub laid : (text : List ℕ) (contents : Contents) (payload bytes : List ℕ) (journal : Standing) (seen : List ℕ) → bytes ≡ counted payload ++ 0 ∷ [] → IsOf text contents journal seen → Laid text contents payload journal (written (journal.gate + 1) bytes seen)
laid text contents payload bytes journal seen is was = record {
  of = image_kept (journal.gate + 1) (length bytes) seen _ (torn_written (journal.gate + 1) bytes seen within) text contents journal (omega arith) was;
  behind = subst (λ (l : List ℕ). StandsAt (journal.gate + 1) l (written (journal.gate + 1) bytes seen)) is (stands_written (journal.gate + 1) bytes seen within);
}
  where
    within : journal.gate + 1 ≤ length seen
    within = omega (arith, gate_within text contents journal seen was)

module _ (text : List ℕ) (contents : Contents) (payload : List ℕ) (journal : Standing) (image : List ℕ) (was : Laid text contents payload journal image) (byte : ℕ) where
  abbrev pub now : List ℕ
  now = written journal.gate (byte ∷ []) image

  within : journal.gate ≤ length image
  within = omega (arith, gate_within text contents journal image was.of)

  torn : Torn journal.gate 1 image now
  torn = torn_written journal.gate (byte ∷ []) image within

  gate_stands : StandsAt journal.gate (byte ∷ []) now
  gate_stands = stands_written journal.gate (byte ∷ []) image within

  -- another gate than 1 ends what stands before it
  pub stays_shut : byte ≢ 1 → IsOf text contents journal now
  stays_shut closed = record {
    is = record {
      text_fits = was.of.is.text_fits;
      payloads_fit = was.of.is.payloads_fit;
      form = form_kept journal.gate 1 image now torn text contents.first contents.payloads contents.area journal.root journal.gate (omega arith) was.of.is.form;
      shut = record { gate = byte; stands = gate_stands; closed = closed };
    };
    first = was.of.first;
    since = was.of.since;
  }

  -- and 1 adds the record behind it
  pub opens_up : byte ≡ 1 → FitsLength payload → (IsRoot payload → ⊥) → records journal + 1 < 2 ^ 64 → IsOf text (added contents payload) (one_more journal payload) now
  opens_up is_open fits no_root room = record {
    is = record {
      text_fits = was.of.is.text_fits;
      payloads_fit = all-push FitsLength contents.payloads payload was.of.is.payloads_fit fits;
      form = form_push text contents.first contents.payloads payload contents.area journal.root journal.gate now no_root (omega (arith, room, was.of.first, was.of.since)) whole
          (form_kept journal.gate 1 image now torn text contents.first contents.payloads contents.area journal.root journal.gate (omega arith) was.of.is.form);
      shut = record {
        gate = 0;
        stands = subst (λ (g : ℕ). StandsAt g (0 ∷ []) now) (omega (arith, length-counted payload)) parts.1;
        closed = omega arith;
      };
    };
    first = was.of.first;
    since = omega (arith, was.of.since, length-push contents.payloads payload);
  }
    where
      parts : StandsAt (journal.gate + 1) (counted payload) now × StandsAt (journal.gate + 1 + length (counted payload)) (0 ∷ []) now
      parts = stands_split (journal.gate + 1) (counted payload) (0 ∷ []) now (kept journal.gate 1 (journal.gate + 1) (counted payload ++ 0 ∷ []) image now torn (inr (omega arith)) was.behind)

      whole : StandsAt journal.gate (1 ∷ counted payload) now
      whole = stands_join journal.gate (1 ∷ []) (counted payload) now (subst (λ (b : ℕ). StandsAt journal.gate (b ∷ []) now) is_open gate_stands) parts.0

-- so the gate is in doubt
pub laid_doubt : (text : List ℕ) (contents : Contents) (payload : List ℕ) (journal : Standing) (image : List ℕ) → Laid text contents payload journal image → FitsLength payload → (IsRoot payload → ⊥) → records journal + 1 < 2 ^ 64 → InDoubt text contents (added contents payload) journal (record { place = journal.gate; byte = 0 }) image
laid_doubt text contents payload journal image was fits no_root room = record {
  within = gate_within text contents journal image was.of;
  either = λ byte. elim (cases_eq byte 1) [
    | inl is_open ↦ inr (record { root = journal.root; gate = journal.gate + (5 + length payload); is = (opens_up text contents payload journal image was byte is_open fits no_root room).is })
    | inr shut ↦ inl (record { root = journal.root; gate = journal.gate; is = (stays_shut text contents payload journal image was byte shut).is })
  ];
  back = stays_shut text contents payload journal image was 0 (omega arith);
}
