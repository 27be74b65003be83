-- A run of whole records ends at one gate.
use Rattle.std.proofs.Common.{◌≡◌, ℕ, ◌+◌, ◌<◌, List, [], ◌∷◌, ◌++◌, length, take, drop, refl, sym, ◌∙◌, ap, subst, arith, append_assoc, length-append, length-drop, take-append-drop}
use Rattle.std.specs.List.{AllByRecursion}
use Rattle.std.specs.Int.{w32, to_be_bytes, from_be_bytes}
use Rattle.std.proofs.lemmas.List.{take_at, drop_at, take-append-le}
use Rattle.std.proofs.lemmas.Nat.{from_be_bytes-to_be_bytes_4}
use Rattle.redo_journal.specs.Bytes.{FitsLength, StandsAt, ClosedAt, IsCutShort, counted, length_of, records_of}
use Rattle.redo_journal.specs.Root.{IsRoot}
use Rattle.redo_journal.specs.Reading.{RunFrom, BreaksAt, ReadsRecord, IsRootAt}
use Rattle.redo_journal.proofs.FormLemmas.{length-counted}
use Rattle.redo_journal.proofs.StandLemmas.{byte_is, stands_split}

pub take_counted : (text rest : List ℕ) → take 4 (counted text ++ rest) ≡ to_be_bytes w32 (length text)
unfolding counted
take_counted text rest =
    ap (λ (l : List ℕ). take 4 l) (append_assoc (to_be_bytes w32 (length text)) text rest) ∙ take_at (to_be_bytes w32 (length text)) (text ++ rest) 4 refl

drop_counted : (text rest : List ℕ) → drop 4 (counted text ++ rest) ≡ text ++ rest
unfolding counted
drop_counted text rest =
    ap (λ (l : List ℕ). drop 4 l) (append_assoc (to_be_bytes w32 (length text)) text rest) ∙ drop_at (to_be_bytes w32 (length text)) (text ++ rest) 4 refl

length_of_counted : (text rest : List ℕ) → FitsLength text → length_of (counted text ++ rest) ≡ length text
unfolding length_of
length_of_counted text rest fits = ap (from_be_bytes w32) (take_counted text rest) ∙ from_be_bytes-to_be_bytes_4 (length text) fits

-- a text behind its length is read one way
pub same_text : (text other rest more : List ℕ) → FitsLength text → FitsLength other → counted text ++ rest ≡ counted other ++ more → (text ≡ other) × (rest ≡ more)
same_text text other rest more fits other_fits is = (
  sym (take_at text rest (length text) refl) ∙ ap (λ (l : List ℕ). take (length text) l) behind ∙ take_at other more (length text) (sym size),
  sym (drop_at text rest (length text) refl) ∙ ap (λ (l : List ℕ). drop (length text) l) behind ∙ drop_at other more (length text) (sym size),
)
  where
    size : length text ≡ length other
    size = sym (length_of_counted text rest fits) ∙ ap length_of is ∙ length_of_counted other more other_fits

    behind : text ++ rest ≡ other ++ more
    behind = sym (drop_counted text rest) ∙ ap (λ (l : List ℕ). drop 4 l) is ∙ drop_counted other more

-- and where more follows, it isn't cut short
pub not_cut : (text rest : List ℕ) → FitsLength text → 0 < length rest → IsCutShort (counted text ++ rest) → ⊥
not_cut text rest fits follows cut =
    omega (arith, cut, length_of_counted text rest fits, length-append (counted text) rest, length-counted text)

-- an image from a place on, of what stands there
pub from_place : (place : ℕ) (bytes image : List ℕ) → StandsAt place bytes image → drop place image ≡ bytes ++ drop (length bytes) (drop place image)
from_place place bytes image is =
    sym (take-append-drop (length bytes) (drop place image)) ∙ ap (λ (l : List ℕ). l ++ drop (length bytes) (drop place image)) is

-- a text behind its length stands at a place
pub same_counted : (place : ℕ) (text other image : List ℕ) → FitsLength text → FitsLength other → StandsAt place (counted text) image → StandsAt place (counted other) image → text ≡ other
same_counted place text other image fits other_fits is is' =
    (same_text text other (drop (length (counted text)) (drop place image)) (drop (length (counted other)) (drop place image)) fits other_fits (sym (from_place place (counted text) image is) ∙ from_place place (counted other) image is')).0

pub counted_not_cut : (place : ℕ) (text image : List ℕ) → FitsLength text → StandsAt place (counted text) image → place + (4 + length text) < length image → IsCutShort (drop place image) → ⊥
counted_not_cut place text image fits is within cut =
    not_cut text (drop (length (counted text)) (drop place image)) fits (omega (arith, within, length-drop (length (counted text)) (drop place image), length-drop place image, length-counted text)) (subst IsCutShort (from_place place (counted text) image is) cut)

-- the parts of a record
record_parts : (image : List ℕ) (gate next : ℕ) (payload : List ℕ) → ReadsRecord image gate payload next → StandsAt gate (1 ∷ []) image × StandsAt (gate + 1) (counted payload) image
record_parts image gate next payload read = stands_split gate (1 ∷ []) (counted payload) image read.stands

pub one_record : (image : List ℕ) (gate next more : ℕ) (payload other : List ℕ) → ReadsRecord image gate payload next → ReadsRecord image gate other more → payload ≡ other
one_record image gate next more payload other read read' =
    same_counted (gate + 1) payload other image read.fits read'.fits (record_parts image gate next payload read).1 (record_parts image gate more other read').1

-- no record of this kind stands whole at a gate
abbrev pub Blocks : (List ℕ → Type 0) → ℕ → List ℕ → Type 0
Blocks R gate image = (payload : List ℕ) (next : ℕ) → ReadsRecord image gate payload next → R payload → ⊥

pub shut_blocks : (R : List ℕ → Type 0) (gate : ℕ) (image : List ℕ) → ClosedAt gate image → Blocks R gate image
shut_blocks R gate image shut payload next read is =
    shut.closed (sym (byte_is gate shut.gate image shut.stands) ∙ byte_is gate 1 image (record_parts image gate next payload read).0)

pub broken_blocks : (R : List ℕ → Type 0) (gate : ℕ) (image : List ℕ) → BreaksAt gate image → Blocks R gate image
broken_blocks R gate image breaks payload next read is =
    counted_not_cut (gate + 1) payload image read.fits (record_parts image gate next payload read).1 (omega (arith, read.within, read.next_is)) breaks.cut

root_length : (rest : List ℕ) → length_of (0 ∷ 0 ∷ 0 ∷ 21 ∷ rest) ≡ 21
unfolding length_of
root_length rest = refl

-- behind a root's gate
behind_mark : List ℕ
behind_mark = 0 ∷ 0 ∷ 0 ∷ 21 ∷ 255 ∷ 255 ∷ 255 ∷ 255 ∷ []

root_at_length : (gate : ℕ) (image : List ℕ) → IsRootAt gate image → length_of (drop (gate + 1) image) ≡ 21
unfolding behind_mark
root_at_length gate image root =
    let parts = stands_split gate (1 ∷ []) behind_mark image root.stands in
    ap length_of (from_place (gate + 1) behind_mark image parts.1) ∙ root_length _

pub root_not_broken : (gate : ℕ) (image : List ℕ) → IsRootAt gate image → BreaksAt gate image → ⊥
root_not_broken gate image root breaks =
    omega (arith, breaks.cut, root_at_length gate image root, length-drop (gate + 1) image, root.whole)

pub root_not_shut : (gate : ℕ) (image : List ℕ) → IsRootAt gate image → ClosedAt gate image → ⊥
unfolding behind_mark
root_not_shut gate image root shut =
    let parts = stands_split gate (1 ∷ []) behind_mark image root.stands in
    shut.closed (sym (byte_is gate shut.gate image shut.stands) ∙ byte_is gate 1 image parts.0)

pub shut_not_broken : (gate : ℕ) (image : List ℕ) → ClosedAt gate image → BreaksAt gate image → ⊥
shut_not_broken gate image shut breaks =
    shut.closed (sym (byte_is gate shut.gate image shut.stands) ∙ byte_is gate 1 image breaks.open_gate)

pub root_blocks : (gate : ℕ) (image : List ℕ) → IsRootAt gate image → Blocks (λ payload. IsRoot payload → ⊥) gate image
unfolding behind_mark
root_blocks gate image root payload next read none = none (record { size = size; mark = mark })
  where
    rest : List ℕ
    rest = drop (length (counted payload)) (drop (gate + 1) image)

    tail : List ℕ
    tail = drop (length behind_mark) (drop (gate + 1) image)

    text_is : drop (gate + 1) image ≡ counted payload ++ rest
    text_is = from_place (gate + 1) (counted payload) image (record_parts image gate next payload read).1

    mark_is : drop (gate + 1) image ≡ behind_mark ++ tail
    mark_is = from_place (gate + 1) behind_mark image (stands_split gate (1 ∷ []) behind_mark image root.stands).1

    size : length payload ≡ 21
    size = sym (length_of_counted payload rest read.fits) ∙ ap length_of (sym text_is) ∙ root_at_length gate image root

    four : List ℕ
    four = 255 ∷ 255 ∷ 255 ∷ 255 ∷ []

    mark : take 4 payload ≡ four
    mark =
        sym (take-append-le 4 payload rest (omega (arith, size)))
        ∙ ap (λ (l : List ℕ). take 4 l) (sym (drop_counted payload rest) ∙ ap (λ (l : List ℕ). drop 4 l) (sym text_is ∙ mark_is) ∙ drop_at (0 ∷ 0 ∷ 0 ∷ 21 ∷ []) (four ++ tail) 4 refl)
        ∙ take_at four tail 4 refl

run_head : (image : List ℕ) (first gate : ℕ) (payload : List ℕ) (payloads : List (List ℕ)) → RunFrom image first (payload ∷ payloads) gate → ReadsRecord image first payload (first + (5 + length payload)) × RunFrom image (first + (5 + length payload)) payloads gate
run_head image first gate payload payloads run = (
  record { fits = run.fit.0; stands = parts.0; next_is = omega arith; within = omega (arith, run.within, run.gate_is, size) },
  record {
    fit = run.fit.1;
    stand = subst (λ (place : ℕ). StandsAt place (records_of payloads) image) (omega (arith, length-counted payload)) parts.1;
    gate_is = omega (arith, run.gate_is, size);
    within = run.within;
  },
)
  where
    parts : StandsAt first (1 ∷ counted payload) image × StandsAt (first + length (1 ∷ counted payload)) (records_of payloads) image
    parts = stands_split first (1 ∷ counted payload) (records_of payloads) image run.stand

    size : length (records_of (payload ∷ payloads)) ≡ 5 + length payload + length (records_of payloads)
    size = omega (arith, length-append (1 ∷ counted payload) (records_of payloads), length-counted payload)

module _ (R : List ℕ → Type 0) (image : List ℕ) where
  pub one_run : (first g h : ℕ) (ps qs : List (List ℕ)) → RunFrom image first ps g → AllByRecursion R ps → Blocks R g image → RunFrom image first qs h → AllByRecursion R qs → Blocks R h image → ps ≡ qs
  one_run first g h [] [] run all blocks run' all' blocks' = refl
  one_run first g h [] (q ∷ qs) run all blocks run' all' blocks' =
      let at : first ≡ g = omega (arith, run.gate_is) in
      absurd (blocks q (first + (5 + length q)) (subst (λ (place : ℕ). ReadsRecord image place q (first + (5 + length q))) at (run_head image first h q qs run').0) all'.0)
  one_run first g h (p ∷ ps) [] run all blocks run' all' blocks' =
      let at : first ≡ h = omega (arith, run'.gate_is) in
      absurd (blocks' p (first + (5 + length p)) (subst (λ (place : ℕ). ReadsRecord image place p (first + (5 + length p))) at (run_head image first g p ps run).0) all.0)
  one_run first g h (p ∷ ps) (q ∷ qs) run all blocks run' all' blocks' =
      let one = run_head image first g p ps run in
      let other = run_head image first h q qs run' in
      let same : p ≡ q = one_record image first (first + (5 + length p)) (first + (5 + length q)) p q one.0 other.0 in
      let moved : RunFrom image (first + (5 + length p)) qs h = subst (λ (l : List ℕ). RunFrom image (first + (5 + length l)) qs h) (sym same) other.1 in
      let rest = one_run (first + (5 + length p)) g h ps qs one.1 all.1 blocks moved all'.1 blocks' in
      λ i. same i ∷ rest i

pub same_gate : (image : List ℕ) (first g h : ℕ) (ps qs : List (List ℕ)) → RunFrom image first ps g → RunFrom image first qs h → ps ≡ qs → g ≡ h
same_gate image first g h ps qs run run' same =
    omega (arith, run.gate_is, run'.gate_is, ap (λ (l : List (List ℕ)). length (records_of l)) same)
