-- What an image is, of which the header, the root and the records are read.
use Rattle.std.proofs.Common.{◌≡◌, ◌≢◌, inl, inr, ℕ, ◌+◌, ◌^◌, ◌<◌, ◌≤◌, List, [], ◌∷◌, length, get_or, refl, sym, ◌∙◌, ap, subst, arith, length-append}
use Rattle.std.specs.Prelude.{None, Some}
use Rattle.std.specs.List.{AllByRecursion}
use Rattle.redo_journal.specs.Bytes.{StandsAt, ClosedAt, counted, front, heading, records_of, segment_head}
use Rattle.redo_journal.specs.Root.{HasRoot, NoneIsRoot, root_mark}
use Rattle.redo_journal.specs.Records.{payloads_of, placed}
use Rattle.redo_journal.specs.Image.{IsRooted}
use Rattle.redo_journal.specs.Reading.{RunFrom, BreakOffAt, StandFrom, ReadsHeader, ReadsRoot, ReadsHead, RefusesHeader, RefusesHead, RefusesRecords, RefusesSkip}
use Rattle.redo_journal.specs.Journal.{IsOf}
use Rattle.redo_journal.specs.Opening.{IsPlainFrom, IsRootedFrom, RefusesReading, StandUpTo}
use Rattle.redo_journal.specs.declared.head.Head.{Head}
use Rattle.redo_journal.specs.declared.record.Record.{Record}
use Rattle.redo_journal.specs.declared.refusal.Refusal.{Refusal}
use Rattle.redo_journal.specs.declared.refusal.Refusal.TheVariants.{OtherSchema, Damaged, DiskFault, NoMemory}
use Rattle.redo_journal.specs.declared.root.Root.{Root}
use Rattle.std.proofs.lemmas.List.{length-map}
use Rattle.redo_journal.proofs.RunLemmas.{one_run, same_gate, shut_blocks, broken_blocks, shut_not_broken}
use Rattle.redo_journal.proofs.StandLemmas.{byte_stands, stands_join}

pub closed_at : (gate : ℕ) (image : List ℕ) → gate < length image → get_or image gate 0 ≢ 1 → ClosedAt gate image
closed_at gate image within shut = record { gate = get_or image gate 0; stands = byte_stands gate image within; closed = shut }

-- whole records behind a header
module _ (text image : List ℕ) (first gate : ℕ) (payloads : List (List ℕ)) (header : ReadsHeader text image first) (run : RunFrom image first payloads gate) where
  pub front_stands : StandsAt 0 (front text payloads) image
  front_stands =
      stands_join 0 (1 ∷ heading text) (records_of payloads) image header.header (subst (λ (place : ℕ). StandsAt place (records_of payloads) image) (omega (arith, header.first_is)) run.stand)

  pub front_length : gate ≡ length (front text payloads)
  front_length = omega (arith, run.gate_is, header.first_is, length-append (1 ∷ heading text) (records_of payloads))

-- records up to a gate
pub stand_upto : (image : List ℕ) (first gate : ℕ) (records : List Record) → StandFrom image first records gate → StandUpTo gate records
stand_upto image first gate records stand =
    stand.places ∙ ap (λ (place : ℕ). placed place (payloads_of records)) (omega (arith, stand.run.gate_is))

-- any record
abbrev pub Any : List ℕ → Type 0
Any payload = Unit {0}

pub all_any : (payloads : List (List ℕ)) → AllByRecursion Any payloads
all_any [] = tt
all_any (payload ∷ payloads) = (tt, all_any payloads)

module _ (text image : List ℕ) (first : ℕ) (plain : IsPlainFrom text image first) where
  skip_shut : ClosedAt plain.gate image
  skip_shut = closed_at plain.gate image plain.skips.run.within plain.shut

  -- those that are read are those that were skipped
  pub none_is_root : (payloads : List (List ℕ)) (gate : ℕ) → RunFrom image first payloads gate → ClosedAt gate image → NoneIsRoot payloads
  none_is_root payloads gate run shut =
      subst NoneIsRoot (one_run Any image first plain.gate gate plain.skips.payloads payloads plain.skips.run (all_any plain.skips.payloads) (shut_blocks Any plain.gate image skip_shut) run (all_any payloads) (shut_blocks Any gate image shut)) plain.skips.none_is_root

  never_breaks : (place : ℕ) → BreakOffAt image first place → ⊥
  never_breaks place off =
      let same = one_run Any image first plain.gate place plain.skips.payloads off.payloads plain.skips.run (all_any plain.skips.payloads) (shut_blocks Any plain.gate image skip_shut) off.run (all_any off.payloads) (broken_blocks Any place image off.breaks) in
      let at = same_gate image first plain.gate place plain.skips.payloads off.payloads plain.skips.run off.run same in
      shut_not_broken place image (subst (λ (g : ℕ). ClosedAt g image) at skip_shut) off.breaks

  pub plain_refused : (refusal : Refusal) → RefusesRecords image first refusal → RefusesReading text image refusal
  plain_refused OtherSchema refuses = absurd refuses
  plain_refused (Damaged place) refuses = absurd (never_breaks place refuses)
  plain_refused DiskFault refuses = refuses
  plain_refused NoMemory refuses = refuses

pub header_refused : (text image : List ℕ) (refusal : Refusal) → RefusesHeader text image refusal → RefusesReading text image refusal
header_refused text image OtherSchema refuses = refuses
header_refused text image (Damaged place) refuses = inl (inl refuses)
header_refused text image DiskFault refuses = refuses
header_refused text image NoMemory refuses = absurd refuses

pub skip_refused : (text image : List ℕ) (first : ℕ) → ReadsHeader text image first → (refusal : Refusal) → RefusesSkip image first refusal → RefusesReading text image refusal
skip_refused text image first header OtherSchema refuses = absurd refuses
skip_refused text image first header (Damaged place) refuses = inl (inr (inl (record {
  payloads = refuses.skips.payloads;
  text_fits = header.text_fits;
  payloads_fit = refuses.skips.run.fit;
  none_is_root = refuses.skips.none_is_root;
  stands = stands_join 0 (front text refuses.skips.payloads) (1 ∷ []) image (front_stands text image first place refuses.skips.payloads header refuses.skips.run) (subst (λ (g : ℕ). StandsAt g (1 ∷ []) image) (omega (arith, front_length text image first place refuses.skips.payloads header refuses.skips.run)) refuses.breaks.open_gate);
  place_is = front_length text image first place refuses.skips.payloads header refuses.skips.run;
  cut = refuses.breaks.cut;
})))
skip_refused text image first header DiskFault refuses = refuses
skip_refused text image first header NoMemory refuses = absurd refuses

module _ (text image : List ℕ) (gate : ℕ) (from : IsRootedFrom text image gate) (root : Root) (read : ReadsRoot image gate root) where
  pub has_root : HasRoot text root image
  has_root = record {
    before = from.skips.payloads;
    before_fit = from.skips.run.fit;
    none_is_root = from.skips.none_is_root;
    gate_is = omega (arith, read.gate_is, front_length text image from.first gate from.skips.payloads from.header from.skips.run);
    stands = stands_join 0 (front text from.skips.payloads) root_mark image (front_stands text image from.first gate from.skips.payloads from.header from.skips.run) (subst (λ (g : ℕ). StandsAt g root_mark image) (omega (arith, front_length text image from.first gate from.skips.payloads from.header from.skips.run)) from.is_root.stands);
  }

  pub head_refused : (refusal : Refusal) → RefusesHead image root refusal → RefusesReading text image refusal
  head_refused OtherSchema refuses = absurd refuses
  head_refused (Damaged place) refuses = inl (inr (inr (inl (record {
    root = root;
    text_fits = from.header.text_fits;
    has_root = has_root;
    selects = read.selects;
    has_cell = read.has_cell;
    whole = omega (arith, from.is_root.whole, read.gate_is);
    place_is = refuses.0;
    bad = refuses.1;
  }))))
  head_refused DiskFault refuses = refuses
  head_refused NoMemory refuses = refuses

  module _ (head : Head) (reads : ReadsHead image root head) where
    pub is_rooted : (payloads : List (List ℕ)) (last : ℕ) → RunFrom image head.end payloads last → IsRooted text head.first head.area payloads root last image
    is_rooted payloads last run = record {
      has_root = has_root;
      has_cell = read.has_cell;
      behind = reads.behind;
      segment = record {
        first_fits = reads.first_fits;
        area_fits = reads.area_fits;
        stands = stands_join root.live (segment_head head.first head.area) (records_of payloads) image reads.stands (subst (λ (g : ℕ). StandsAt g (records_of payloads) image) reads.end_is run.stand);
        gate_is = omega (arith, run.gate_is, reads.end_is, length-append (segment_head head.first head.area) (records_of payloads));
      };
    }

    pub segment_refused : (refusal : Refusal) → RefusesRecords image head.end refusal → RefusesReading text image refusal
    segment_refused OtherSchema refuses = absurd refuses
    segment_refused (Damaged place) refuses = inl (inr (inr (inr (inl (record {
      root = root;
      first = head.first;
      area = head.area;
      payloads = refuses.payloads;
      text_fits = from.header.text_fits;
      payloads_fit = refuses.run.fit;
      selects = read.selects;
      is_rooted = is_rooted refuses.payloads place refuses.run;
      open_gate = refuses.breaks.open_gate;
      cut = refuses.breaks.cut;
    })))))
    segment_refused DiskFault refuses = refuses
    segment_refused NoMemory refuses = refuses

    pub number_refused : (payloads : List (List ℕ)) (last : ℕ) → RunFrom image head.end payloads last → ClosedAt last image → 2 ^ 63 ≤ head.first + length payloads → RefusesReading text image (Damaged root.gate)
    number_refused payloads last run shut high = inr (record {
      root = root;
      first = head.first;
      area = head.area;
      payloads = payloads;
      gate = last;
      text_fits = from.header.text_fits;
      payloads_fit = run.fit;
      selects = read.selects;
      is_rooted = is_rooted payloads last run;
      shut = shut;
      place_is = refl;
      high = high;
    })

-- no more payloads than bytes
pub payloads_le : (payloads : List (List ℕ)) → length payloads ≤ length (records_of payloads)
payloads_le [] = omega arith
payloads_le (payload ∷ payloads) = omega (arith, payloads_le payloads, length-append (1 ∷ counted payload) (records_of payloads))

pub length-payloads : (records : List Record) → length (payloads_of records) ≡ length records
length-payloads records = length-map records (λ (r : Record). r.payload)

-- what is read without a root
pub plain_is : (text image : List ℕ) (first gate since : ℕ) (records : List Record) → IsPlainFrom text image first → StandFrom image first records gate → get_or image gate 0 ≢ 1 → since ≡ length records → IsOf text (record { first = 0; area = None; payloads = payloads_of records }) (record { gate = gate; first = 0; since = since; root = None; doubt = None }) image
plain_is text image first gate since records plain stand open_gate count = record {
  is = record {
    text_fits = plain.header.text_fits;
    payloads_fit = stand.run.fit;
    form = (
      refl,
      record {
        none_is_root = none_is_root text image first plain (payloads_of records) gate stand.run shut;
        stands = front_stands text image first gate (payloads_of records) plain.header stand.run;
        gate_is = front_length text image first gate (payloads_of records) plain.header stand.run;
      },
    );
    shut = shut;
  };
  first = refl;
  since = count ∙ sym (length-payloads records);
}
  where
    shut : ClosedAt gate image
    shut = closed_at gate image stand.run.within open_gate

-- and with one
pub rooted_is : (text image : List ℕ) (gate : ℕ) (from : IsRootedFrom text image gate) (root : Root) (read : ReadsRoot image gate root) (head : Head) (reads : ReadsHead image root head) (last since : ℕ) (records : List Record) → StandFrom image head.end records last → get_or image last 0 ≢ 1 → since ≡ length records → head.first + since < 2 ^ 64 → IsOf text (record { first = head.first; area = Some head.area; payloads = payloads_of records }) (record { gate = last; first = head.first; since = since; root = Some root; doubt = None }) image
rooted_is text image gate from root read head reads last since records stand open_gate count low = record {
  is = record {
    text_fits = from.header.text_fits;
    payloads_fit = stand.run.fit;
    form = (omega (arith, low, count, length-payloads records), read.selects, is_rooted text image gate from root read head reads (payloads_of records) last stand.run);
    shut = closed_at last image stand.run.within open_gate;
  };
  first = refl;
  since = count ∙ sym (length-payloads records);
}
