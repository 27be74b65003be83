-- What a journal in the making shows.
use Rattle.std.proofs.Common.{◌≡◌, ◌≢◌, inl, inr, ℕ, ◌+◌, ◌<◌, ◌≤◌, List, [], ◌∷◌, ◌++◌, length, get_or, drop, refl, sym, ◌∙◌, ap, subst, arith, append_assoc, length-append}
use Rattle.std.specs.Prelude.{None}
use Rattle.std.specs.Int.{w32, to_be_bytes}
use Rattle.std.proofs.lemmas.Bool.{cases_eq}
use Rattle.std.proofs.lemmas.List.{append-nil, drop_all, drop_at}
use Rattle.hs_disk.specs.Disk.{Torn, Cut, written}
use Rattle.redo_journal.specs.Bytes.{FitsLength, StandsAt, front, heading, mark, counted}
use Rattle.redo_journal.specs.Image.{IsFresh, IsImageAt, StandsFor, nothing}
use Rattle.redo_journal.specs.Gates.{Is, TornFrom}
use Rattle.redo_journal.proofs.AppendLemmas.{counted_is}
use Rattle.redo_journal.proofs.FormLemmas.{length-counted}
use Rattle.redo_journal.proofs.StandLemmas.{byte_is, byte_stands, kept, stands_front, stands_length, stands_join, stands_split, stands_written, torn_written}

pub front-nil : (text : List ℕ) → front text [] ≡ 1 ∷ heading text
front-nil text = append-nil (1 ∷ heading text)

pub length-heading : (text : List ℕ) → length (heading text) ≡ 12 + length text
length-heading text = omega (arith, length-append mark (counted text), length-counted text)

pub length-front-nil : (text : List ℕ) → length (front text []) ≡ 13 + length text
length-front-nil text = omega (arith, ap length (front-nil text), length-heading text)

pub heading_is : (head text : List ℕ) → head ≡ mark ++ to_be_bytes w32 (length text) → head ++ text ≡ heading text
heading_is head text is =
    ap (λ (l : List ℕ). l ++ text) is
    ∙ append_assoc mark (to_be_bytes w32 (length text)) text
    ∙ ap (λ (l : List ℕ). mark ++ l) (counted_is (to_be_bytes w32 (length text)) text refl)

pub fresh_stands : (text image : List ℕ) → IsFresh image → StandsFor text nothing image
fresh_stands text image fresh = inl (fresh, refl)

-- a first gate that is not open
pub shut_fresh : (gate : ℕ) (image : List ℕ) → gate ≢ 1 → StandsAt 0 (gate ∷ []) image → IsFresh image
shut_fresh gate [] shut stands = tt
shut_fresh gate (first ∷ []) shut stands = tt
shut_fresh gate (first ∷ byte ∷ rest) shut stands = subst (λ (b : ℕ). b ≢ 1) (sym (byte_is 0 gate (first ∷ byte ∷ rest) stands)) shut

-- a header whose gate is open
pub header_opens : (text image : List ℕ) → FitsLength text → StandsAt 0 (1 ∷ []) image → StandsAt 1 (heading text ++ 0 ∷ []) image → IsImageAt text nothing None (13 + length text) image
header_opens text image fits gate behind = record {
  text_fits = fits;
  payloads_fit = tt;
  form = (
    refl,
    record {
      none_is_root = tt;
      stands = subst (λ (l : List ℕ). StandsAt 0 l image) (sym (front-nil text)) (stands_join 0 (1 ∷ []) (heading text) image gate parts.0);
      gate_is = omega (arith, length-front-nil text);
    },
  );
  shut = record {
    gate = 0;
    stands = subst (λ (place : ℕ). StandsAt place (0 ∷ []) image) (omega (arith, length-heading text)) parts.1;
    closed = omega arith;
  };
}
  where
    parts : StandsAt 1 (heading text) image × StandsAt (1 + length (heading text)) (0 ∷ []) image
    parts = stands_split 1 (heading text) (0 ∷ []) image behind

-- while the header is written behind a gate that is closed
pub behind_fresh : (n : ℕ) (images : List ℕ → Type 0) (image : List ℕ) → ((i : List ℕ) → images i → Is (0 ∷ []) i) → TornFrom 1 n images image → IsFresh image
behind_fresh n images image blank from =
    shut_fresh 0 image (omega arith) (kept 1 n 0 (0 ∷ []) from.earlier image from.torn (inl (omega arith)) (stands_front (0 ∷ []) [] from.earlier (blank from.earlier from.was)))

pub header_written : (text bytes blank : List ℕ) → bytes ≡ heading text ++ 0 ∷ [] → Is (0 ∷ []) blank → StandsAt 1 (heading text ++ 0 ∷ []) (written 1 bytes blank)
header_written text bytes blank is shut =
    subst (λ (l : List ℕ). StandsAt 1 l (written 1 bytes blank)) is (stands_written 1 bytes blank (omega (arith, ap length shut)))

-- and while that gate is set
pub gate_stands_for : (text : List ℕ) (images : List ℕ → Type 0) (image : List ℕ) → FitsLength text → ((i : List ℕ) → images i → StandsAt 1 (heading text ++ 0 ∷ []) i) → TornFrom 0 1 images image → StandsFor text nothing image
gate_stands_for text images image fits behind from = elim (cases_eq (get_or image 0 0) 1) [
  | inl is_open ↦ inr (record { root = None; gate = 13 + length text; is = header_opens text image fits (subst (λ (b : ℕ). StandsAt 0 (b ∷ []) image) is_open byte) header })
  | inr shut ↦ fresh_stands text image (shut_fresh (get_or image 0 0) image shut byte)
]
  where
    was : StandsAt 1 (heading text ++ 0 ∷ []) from.earlier
    was = behind from.earlier from.was

    header : StandsAt 1 (heading text ++ 0 ∷ []) image
    header = kept 0 1 1 (heading text ++ 0 ∷ []) from.earlier image from.torn (inr (omega arith)) was

    within : 0 < length image
    within = omega (arith, stands_length 1 (heading text ++ 0 ∷ []) image header, length-append (heading text) (0 ∷ []))

    byte : StandsAt 0 (get_or image 0 0 ∷ []) image
    byte = byte_stands 0 image within

pub gate_written : (text seen : List ℕ) → FitsLength text → StandsAt 1 (heading text ++ 0 ∷ []) seen → IsImageAt text nothing None (13 + length text) (written 0 (1 ∷ []) seen)
gate_written text seen fits behind =
    header_opens text (written 0 (1 ∷ []) seen) fits (stands_written 0 (1 ∷ []) seen (omega arith))
    (kept 0 1 1 (heading text ++ 0 ∷ []) seen (written 0 (1 ∷ []) seen) (torn_written 0 (1 ∷ []) seen (omega arith)) (inr (omega arith)) behind)

-- of one byte at most
abbrev pub IsShort : List ℕ → Type 0
IsShort image = length image ≤ 1

pub short_fresh : (image : List ℕ) → IsShort image → IsFresh image
short_fresh [] short = tt
short_fresh (gate ∷ []) short = tt
short_fresh (gate ∷ byte ∷ rest) short = absurd (omega (arith, short))

pub nothing_short : (image : List ℕ) → Is [] image → IsShort image
nothing_short image is = omega (arith, ap length is)

-- a cut to nothing, and a write of one byte at the front, leave a fresh disk
pub cut_fresh : (earlier image : List ℕ) → IsFresh earlier → Cut 0 earlier image → IsFresh image
cut_fresh earlier image fresh (inl stays) = subst IsFresh (sym stays) fresh
cut_fresh earlier image fresh (inr none) = subst IsFresh (sym none) tt

pub torn_short : (earlier image : List ℕ) → IsShort earlier → Torn 0 1 earlier image → IsShort image
torn_short earlier image short torn = omega (arith, short, torn.no_longer)

-- what is written on a disk that held one closed gate, and then its gate
pub made_bytes : (text head blank behind now : List ℕ) → head ++ text ≡ heading text → Is (0 ∷ []) blank → behind ≡ written 1 (head ++ text ++ 0 ∷ []) blank → now ≡ written 0 (1 ∷ []) behind → now ≡ front text [] ++ 0 ∷ []
made_bytes text head blank behind now contents is wrote set =
    set
    ∙ ap (λ (l : List ℕ). written 0 (1 ∷ []) l) behind_is
    ∙ ap (λ (l : List ℕ). 1 ∷ l) (drop_at gate all 1 refl)
    ∙ ap (λ (l : List ℕ). 1 ∷ (l ++ 0 ∷ [])) contents
    ∙ ap (λ (l : List ℕ). l ++ 0 ∷ []) (sym (front-nil text))
  where
    all : List ℕ
    all = head ++ text ++ 0 ∷ []

    gate : List ℕ
    gate = 0 ∷ []

    none : drop (1 + length all) gate ≡ []
    none = drop_all (1 + length all) gate (omega arith)

    behind_is : behind ≡ 0 ∷ all
    behind_is = wrote
        ∙ ap (λ (l : List ℕ). written 1 all l) is
        ∙ ap (λ (l : List ℕ). (0 ∷ []) ++ all ++ l) none
        ∙ ap (λ (l : List ℕ). 0 ∷ l) (append-nil all)
