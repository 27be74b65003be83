-- The images of a disk in memory after one call more.
use Rattle.std.proofs.Common.{◌≡◌, ℕ, ◌+◌, ◌≤◌, max, List, [], ◌∷◌, ◌++◌, length, take, drop, refl, sym, ◌∙◌, ap, subst, arith, length-append}
use Rattle.std.proofs.lemmas.List.{take_all, take_at, drop_at, take-append-le, length-take-le, length-drop, append_assoc}
use Rattle.hs_disk.specs.Disk.{written, Torn, Elapses}
use Rattle.hs_disk.specs.Images.{read_after, images_after, read_at_end, images_at_end, IsImage, WasImageAt}
use Rattle.hs_disk.specs.Picks.{IsWithin, AreWithin}
use Rattle.hs_disk.specs.declared.change.Change.{Change}

pub read_push : (seen : List ℕ) (changes : List Change) (change : Change) → read_at_end seen (changes ++ change ∷ []) ≡ read_after change (read_at_end seen changes)
read_push seen [] change = refl
read_push seen (c ∷ changes) change = read_push (read_after c seen) changes change

pub push_to : (seen : List ℕ) (images : List ℕ → Type 0) (changes : List Change) (change : Change) (image : List ℕ) → images_at_end seen images (changes ++ change ∷ []) image → images_after change (read_at_end seen changes) (images_at_end seen images changes) image
push_to seen images [] change image is = is
push_to seen images (c ∷ changes) change image is = push_to (read_after c seen) (images_after c seen images) changes change image is

pub push_from : (seen : List ℕ) (images : List ℕ → Type 0) (changes : List Change) (change : Change) (image : List ℕ) → images_after change (read_at_end seen changes) (images_at_end seen images changes) image → images_at_end seen images (changes ++ change ∷ []) image
push_from seen images [] change image is = is
push_from seen images (c ∷ changes) change image is = push_from (read_after c seen) (images_after c seen images) changes change image is

-- what may be left now
abbrev Now : List ℕ → List Change → List ℕ → Type 0
Now first changes = IsImage first changes

pub elapses_same : (first : List ℕ) (changes : List Change) → Elapses (length changes) (length changes) (WasImageAt first changes) (WasImageAt first changes) (IsImage first changes)
elapses_same first changes = record {
  later = omega arith;
  stays = λ t image le was. was;
  keeps = λ t image le was. was;
  nothing_else = λ t image past within was. absurd (omega (arith, past, within));
}

pub elapses_push : (first : List ℕ) (changes : List Change) (change : Change) → Elapses (length changes) (length (changes ++ change ∷ [])) (WasImageAt first changes) (WasImageAt first (changes ++ change ∷ [])) (IsImage first (changes ++ change ∷ []))
elapses_push first changes change = record {
  later = omega (arith, longer);
  stays = λ t image le was. (le, subst (λ (l : List Change). IsImage first l image) (take-append-le t changes (change ∷ []) le) was.1);
  keeps = λ t image le was. (omega (arith, longer, le), subst (λ (l : List Change). IsImage first l image) (sym (take-append-le t changes (change ∷ []) le)) was.1);
  nothing_else = λ t image past within was. subst (λ (l : List Change). IsImage first l image) (take_all t (changes ++ change ∷ []) (omega (arith, longer, past))) was.1;
}
  where
    longer : length (changes ++ change ∷ []) ≡ length changes + 1
    longer = length-append changes (change ∷ [])

-- an interrupted write may have changed nothing
pub torn_same : (at n : ℕ) (bytes : List ℕ) → Torn at n bytes bytes
torn_same at n bytes = record { before = refl; after = refl; no_shorter = omega arith; no_longer = omega arith }

pub length-written : (at : ℕ) (bytes old : List ℕ) → at ≤ length old → length (written at bytes old) ≡ max (length old) (at + length bytes)
length-written at bytes old within = omega (arith, length-append (take at old) bytes, length-append (take at old ++ bytes) (drop (at + length bytes) old), length-take-le at old within, length-drop (at + length bytes) old)

-- or have been carried out
pub torn_written : (at : ℕ) (bytes old : List ℕ) → at ≤ length old → Torn at (length bytes) old (written at bytes old)
torn_written at bytes old within = record {
  before = ap (λ (l : List ℕ). take at l) (append_assoc (take at old) bytes rest) ∙ take_at (take at old) (bytes ++ rest) at front;
  after = drop_at (take at old ++ bytes) rest (at + length bytes) through;
  no_shorter = omega (arith, length-written at bytes old within);
  no_longer = omega (arith, length-written at bytes old within);
}
  where
    rest : List ℕ
    rest = drop (at + length bytes) old

    front : length (take at old) ≡ at
    front = length-take-le at old within

    through : length (take at old ++ bytes) ≡ at + length bytes
    through = omega (arith, front, length-append (take at old) bytes)

within_push : (seen : List ℕ) (changes : List Change) (change : Change) → AreWithin seen changes → IsWithin change (read_at_end seen changes) → AreWithin seen (changes ++ change ∷ [])
within_push seen [] change places within = (within, tt)
within_push seen (c ∷ changes) change places within = (places.0, within_push (read_after c seen) changes change places.1 within)

-- a sound disk after one call more, where what it reads then is one of its images
pub sound_after : (first : List ℕ) (changes later : List Change) (bytes now : List ℕ) (change : Change) → later ≡ changes ++ change ∷ [] → now ≡ read_after change bytes → read_at_end first changes ≡ bytes → images_after change bytes (IsImage first changes) (read_after change bytes) → AreWithin first changes → IsWithin change bytes → (read_at_end first later ≡ now) × IsImage first later now × AreWithin first later
sound_after first changes later bytes now change more is replays reads places within = (
  ap (λ (l : List Change). read_at_end first l) more ∙ read_push first changes change ∙ ap (λ (l : List ℕ). read_after change l) replays ∙ sym is,
  subst (λ (l : List Change). IsImage first l now) (sym more) (push_from first (λ image. image ≡ first) changes change now
      (subst (λ (l : List ℕ). images_after change (read_at_end first changes) (IsImage first changes) l) (sym is)
      (subst (λ (l : List ℕ). images_after change l (IsImage first changes) (read_after change bytes)) (sym replays) reads))),
  subst (AreWithin first) (sym more) (within_push first changes change places (subst (IsWithin change) (sym replays) within)),
)

-- the images that one call more leaves
pub leaves_after : (first : List ℕ) (changes later : List Change) (bytes : List ℕ) (change : Change) → later ≡ changes ++ change ∷ [] → read_at_end first changes ≡ bytes → (image : List ℕ) → IsImage first later image → images_after change bytes (IsImage first changes) image
leaves_after first changes later bytes change more replays image is =
    subst (λ (l : List ℕ). images_after change l (IsImage first changes) image) replays (push_to first (λ i. i ≡ first) changes change image (subst (λ (l : List Change). IsImage first l image) more is))
