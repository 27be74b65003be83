-- A journal up to its last gate: what a write leaves of it, and one record more.
use Rattle.std.proofs.Common.{◌≡◌, ◌⊎◌, inl, inr, ℕ, ◌+◌, ◌^◌, ◌<◌, ◌≤◌, Bool, true, false, List, [], ◌∷◌, ◌++◌, length, sym, ◌∙◌, ap, subst, arith, append_assoc, length-append}
use Rattle.std.specs.Prelude.{Option, None, Some}
use Rattle.std.specs.List.{AllByRecursion}
use Rattle.std.specs.Int.{w32, w64, to_be_bytes}
use Rattle.std.proofs.lemmas.List.{append-nil}
use Rattle.hs_disk.specs.Disk.{Torn}
use Rattle.redo_journal.specs.Bytes.{StandsAt, front, heading, records_of, counted, segment_front, segment_head}
use Rattle.redo_journal.specs.Root.{IsRoot, HasRoot, HasCell, Selects, root_mark, root_end, cell_place}
use Rattle.redo_journal.specs.Image.{IsSegmentAt, IsRooted, IsForm}
use Rattle.redo_journal.specs.declared.root.Root.{Root}
use Rattle.redo_journal.proofs.StandLemmas.{Apart, kept, stands_join}

pub records_of-push : (payloads : List (List ℕ)) (payload : List ℕ) → records_of (payloads ++ payload ∷ []) ≡ records_of payloads ++ 1 ∷ counted payload
records_of-push [] payload = append-nil (1 ∷ counted payload)
records_of-push (first ∷ payloads) payload =
    ap (λ (l : List ℕ). (1 ∷ counted first) ++ l) (records_of-push payloads payload) ∙ sym (append_assoc (1 ∷ counted first) (records_of payloads) (1 ∷ counted payload))

pub front-push : (text : List ℕ) (payloads : List (List ℕ)) (payload : List ℕ) → front text (payloads ++ payload ∷ []) ≡ front text payloads ++ 1 ∷ counted payload
front-push text payloads payload =
    ap (λ (l : List ℕ). (1 ∷ heading text) ++ l) (records_of-push payloads payload) ∙ sym (append_assoc (1 ∷ heading text) (records_of payloads) (1 ∷ counted payload))

pub segment_front-push : (number : ℕ) (area : List ℕ) (payloads : List (List ℕ)) (payload : List ℕ) → segment_front number area (payloads ++ payload ∷ []) ≡ segment_front number area payloads ++ 1 ∷ counted payload
segment_front-push number area payloads payload =
    ap (λ (l : List ℕ). segment_head number area ++ l) (records_of-push payloads payload) ∙ sym (append_assoc (segment_head number area) (records_of payloads) (1 ∷ counted payload))

pub length-counted : (payload : List ℕ) → length (counted payload) ≡ 4 + length payload
unfolding counted
length-counted payload = length-append (to_be_bytes w32 (length payload)) payload

pub length-segment_head : (number : ℕ) (area : List ℕ) → length (segment_head number area) ≡ 12 + length area
unfolding segment_head
length-segment_head number area = omega (arith, length-append (to_be_bytes w64 number) (counted area), length-counted area)

pub length-more : (xs : List ℕ) (payload : List ℕ) → length (xs ++ 1 ∷ counted payload) ≡ length xs + (5 + length payload)
length-more xs payload = omega (arith, length-append xs (1 ∷ counted payload), length-counted payload)

pub length-push : (payloads : List (List ℕ)) (payload : List ℕ) → length (payloads ++ payload ∷ []) ≡ length payloads + 1
length-push payloads payload = length-append payloads (payload ∷ [])

pub all-push : (P : List ℕ → Type 0) (payloads : List (List ℕ)) (payload : List ℕ) → AllByRecursion P payloads → P payload → AllByRecursion P (payloads ++ payload ∷ [])
all-push P [] payload fits new = (new, tt)
all-push P (first ∷ payloads) payload fits new = (fits.0, all-push P payloads payload fits.1 new)

pub cell_behind : (gate : ℕ) (second : Bool) → (gate + 10 ≤ cell_place gate second) × (cell_place gate second + 8 ≤ gate + 26)
cell_behind gate true = (omega arith, omega arith)
cell_behind gate false = (omega arith, omega arith)

pub length-root_front : (xs : List ℕ) → length (xs ++ root_mark) ≡ length xs + 9
length-root_front xs = length-append xs root_mark

module _ (at n : ℕ) (earlier image : List ℕ) (torn : Torn at n earlier image) where
  pub has_root_kept : (text : List ℕ) (root : Root) → root.gate + 9 ≤ at → HasRoot text root earlier → HasRoot text root image
  has_root_kept text root before has = record {
    before = has.before;
    before_fit = has.before_fit;
    none_is_root = has.none_is_root;
    gate_is = has.gate_is;
    stands = kept at n 0 (front text has.before ++ root_mark) earlier image torn (inl (omega (arith, before, has.gate_is, length-root_front (front text has.before)))) has.stands;
  }

  pub selects_kept : (root : Root) → root.gate + 10 ≤ at → Selects root earlier → Selects root image
  selects_kept root before selects = record {
    selector = selects.selector;
    stands = kept at n (root.gate + 9) (selects.selector ∷ []) earlier image torn (inl (omega (arith, before))) selects.stands;
    low_bit = selects.low_bit;
  }

  pub has_cell_kept : (root : Root) → Apart at n (cell_place root.gate root.second) 8 → HasCell root earlier → HasCell root image
  has_cell_kept root apart has = record {
    cell = has.cell;
    size = has.size;
    stands = kept at n (cell_place root.gate root.second) has.cell earlier image torn (subst (Apart at n (cell_place root.gate root.second)) (sym has.size) apart) has.stands;
    holds = has.holds;
  }

  pub segment_kept : (place first : ℕ) (area : List ℕ) (payloads : List (List ℕ)) (gate : ℕ) → (gate ≤ at) ⊎ (at + n ≤ place) → IsSegmentAt place first area payloads gate earlier → IsSegmentAt place first area payloads gate image
  segment_kept place first area payloads gate apart is = record {
    first_fits = is.first_fits;
    area_fits = is.area_fits;
    stands = kept at n place (segment_front first area payloads) earlier image torn (subst (λ (g : ℕ). (g ≤ at) ⊎ (at + n ≤ place)) is.gate_is apart) is.stands;
    gate_is = is.gate_is;
  }

  -- a write behind the root, apart from the segment
  pub rooted_kept : (text : List ℕ) (first : ℕ) (area : List ℕ) (payloads : List (List ℕ)) (root : Root) (gate : ℕ) → root_end root < at → (gate ≤ at) ⊎ (at + n ≤ root.live) → IsRooted text first area payloads root gate earlier → IsRooted text first area payloads root gate image
  rooted_kept text first area payloads root gate behind apart is = record {
    has_root = has_root_kept text root (omega (arith, behind)) is.has_root;
    has_cell = has_cell_kept root (inl (omega (arith, behind, (cell_behind root.gate root.second).1))) is.has_cell;
    behind = is.behind;
    segment = segment_kept root.live first area payloads gate apart is.segment;
  }

  gate_behind : (text : List ℕ) (first : ℕ) (area : List ℕ) (payloads : List (List ℕ)) (root : Root) (gate : ℕ) → IsRooted text first area payloads root gate earlier → root_end root < gate
  gate_behind text first area payloads root gate is = omega (arith, is.behind, is.segment.gate_is)

  -- a write at the last gate or behind it
  pub form_kept : (text : List ℕ) (first : ℕ) (payloads : List (List ℕ)) (area : Option (List ℕ)) (root : Option Root) (gate : ℕ) → gate ≤ at → IsForm text first payloads area root gate earlier → IsForm text first payloads area root gate image
  form_kept text first payloads None None gate le is = (
    is.0,
    record {
      none_is_root = is.1.none_is_root;
      stands = kept at n 0 (front text payloads) earlier image torn (inl (omega (arith, le, is.1.gate_is))) is.1.stands;
      gate_is = is.1.gate_is;
    },
  )
  form_kept text first payloads None (Some root) gate le is = is
  form_kept text first payloads (Some area) None gate le is = is
  form_kept text first payloads (Some area) (Some root) gate le is =
      let far : root_end root < gate = gate_behind text first area payloads root gate is.2 in
      (is.0, selects_kept root (omega (arith, far, le)) is.1, rooted_kept text first area payloads root gate (omega (arith, far, le)) (inl le) is.2)

segment_push : (place first : ℕ) (area : List ℕ) (payloads : List (List ℕ)) (payload : List ℕ) (gate : ℕ) (image : List ℕ) → StandsAt gate (1 ∷ counted payload) image → IsSegmentAt place first area payloads gate image → IsSegmentAt place first area (payloads ++ payload ∷ []) (gate + (5 + length payload)) image
segment_push place first area payloads payload gate image more is = record {
  first_fits = is.first_fits;
  area_fits = is.area_fits;
  stands = subst (λ (l : List ℕ). StandsAt place l image) (sym (segment_front-push first area payloads payload))
      (stands_join place (segment_front first area payloads) (1 ∷ counted payload) image is.stands (subst (λ (g : ℕ). StandsAt g (1 ∷ counted payload) image) is.gate_is more));
  gate_is = omega (arith, is.gate_is, ap length (segment_front-push first area payloads payload), length-more (segment_front first area payloads) payload);
}

-- one record more
pub form_push : (text : List ℕ) (first : ℕ) (payloads : List (List ℕ)) (payload : List ℕ) (area : Option (List ℕ)) (root : Option Root) (gate : ℕ) (image : List ℕ) → (IsRoot payload → ⊥) → first + length payloads + 1 < 2 ^ 64 → StandsAt gate (1 ∷ counted payload) image → IsForm text first payloads area root gate image → IsForm text first (payloads ++ payload ∷ []) area root (gate + (5 + length payload)) image
form_push text first payloads payload None None gate image no_root room more is = (
  is.0,
  record {
    none_is_root = all-push (λ p. IsRoot p → ⊥) payloads payload is.1.none_is_root no_root;
    stands = subst (λ (l : List ℕ). StandsAt 0 l image) (sym (front-push text payloads payload))
        (stands_join 0 (front text payloads) (1 ∷ counted payload) image is.1.stands (subst (λ (g : ℕ). StandsAt g (1 ∷ counted payload) image) (omega (arith, is.1.gate_is)) more));
    gate_is = omega (arith, is.1.gate_is, ap length (front-push text payloads payload), length-more (front text payloads) payload);
  },
)
form_push text first payloads payload None (Some root) gate image no_root room more is = is
form_push text first payloads payload (Some area) None gate image no_root room more is = is
form_push text first payloads payload (Some area) (Some root) gate image no_root room more is = (
  omega (arith, room, length-push payloads payload),
  is.1,
  record {
    has_root = is.2.has_root;
    has_cell = is.2.has_cell;
    behind = is.2.behind;
    segment = segment_push root.live first area payloads payload gate image more is.2.segment;
  },
)

pub form_places : (text : List ℕ) (first : ℕ) (payloads : List (List ℕ)) (area : Option (List ℕ)) (root : Root) (gate : ℕ) (image : List ℕ) → IsForm text first payloads area (Some root) gate image → (root_end root < root.live) × (root.live + 12 ≤ gate)
form_places text first payloads None root gate image is = absurd is
form_places text first payloads (Some area) root gate image is =
    (is.2.behind, omega (arith, is.2.segment.gate_is, length-append (segment_head first area) (records_of payloads), length-segment_head first area))

pub form_root : (text : List ℕ) (first : ℕ) (payloads : List (List ℕ)) (area : Option (List ℕ)) (root : Root) (gate : ℕ) (image : List ℕ) → IsForm text first payloads area (Some root) gate image → HasRoot text root image
form_root text first payloads None root gate image is = absurd is
form_root text first payloads (Some area) root gate image is = is.2.has_root

module _ (at n : ℕ) (earlier image : List ℕ) (torn : Torn at n earlier image) where
  -- a write behind the selector, apart from the cell that is named and from the segment
  pub form_kept_apart : (text : List ℕ) (first : ℕ) (payloads : List (List ℕ)) (area : Option (List ℕ)) (root : Root) (gate : ℕ) → root.gate + 10 ≤ at → Apart at n (cell_place root.gate root.second) 8 → (gate ≤ at) ⊎ (at + n ≤ root.live) → IsForm text first payloads area (Some root) gate earlier → IsForm text first payloads area (Some root) gate image
  form_kept_apart text first payloads None root gate behind cell apart is = is
  form_kept_apart text first payloads (Some area) root gate behind cell apart is = (
    is.0,
    selects_kept at n earlier image torn root behind is.1,
    record {
      has_root = has_root_kept at n earlier image torn text root (omega (arith, behind)) is.2.has_root;
      has_cell = has_cell_kept at n earlier image torn root cell is.2.has_cell;
      behind = is.2.behind;
      segment = segment_kept at n earlier image torn root.live first area payloads gate apart is.2.segment;
    },
  )

-- a write of the selector that names the same cell
pub form_selected : (text : List ℕ) (first : ℕ) (payloads : List (List ℕ)) (area : Option (List ℕ)) (root : Root) (gate : ℕ) (earlier image : List ℕ) → Torn (root.gate + 9) 1 earlier image → Selects root image → IsForm text first payloads area (Some root) gate earlier → IsForm text first payloads area (Some root) gate image
form_selected text first payloads None root gate earlier image torn selects is = is
form_selected text first payloads (Some area) root gate earlier image torn selects is = (
  is.0,
  selects,
  record {
    has_root = has_root_kept (root.gate + 9) 1 earlier image torn text root (omega arith) is.2.has_root;
    has_cell = has_cell_kept (root.gate + 9) 1 earlier image torn root (inr (omega (arith, (cell_behind root.gate root.second).0))) is.2.has_cell;
    behind = is.2.behind;
    segment = segment_kept (root.gate + 9) 1 earlier image torn root.live first area payloads gate (inr (omega (arith, is.2.behind))) is.2.segment;
  },
)
