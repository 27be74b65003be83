-- What a header is read from.
use Rattle.std.proofs.Common.{◌≡◌, ◌≢◌, ℕ, ◌≤◌, ◌<◌, Bool, true, false, List, [], ◌∷◌, length, get_or, take, drop, refl, sym, ◌∙◌, ap, subst, arith, length-append, length-drop}
use Rattle.std.specs.Prelude.{not}
use Rattle.std.specs.Str.{bytes_eq}
use Rattle.std.proofs.lemmas.Bool.{true≢false}
use Rattle.std.proofs.lemmas.Slice.Eq.{bytes_eq-Decides}
use Rattle.redo_journal.specs.Bytes.{mark, heading, counted, StandsAt}
use Rattle.redo_journal.specs.Damage.{HasOtherText}
use Rattle.redo_journal.proofs.FormLemmas.{length-counted}
use Rattle.redo_journal.proofs.ImageLemmas.{ReadsText}
use Rattle.redo_journal.proofs.StandLemmas.{byte_stands, front_is, stands_join}

from_not : (b : Bool) → not b ≡ false → b ≡ true
from_not true is = refl
from_not false is = sym is

-- two lists that `!=` finds the same
pub same_lists : (xs ys : List ℕ) (r : Bool) → r ≡ not (bytes_eq xs ys) → r ≡ false → xs ≡ ys
same_lists xs ys r is differs = (bytes_eq-Decides xs ys).0 (from_not (bytes_eq xs ys) (sym is ∙ differs))

-- two lists that it finds different
pub other_lists : (xs ys : List ℕ) (r : Bool) → r ≡ not (bytes_eq xs ys) → r ≡ true → xs ≢ ys
other_lists xs ys r is differs same = true≢false (sym differs ∙ is ∙ ap not ((bytes_eq-Decides xs ys).1 same))

-- the first byte and the mark
pub first_nine : (image : List ℕ) → get_or image 0 0 ≡ 1 → 9 ≤ length image → take 8 (drop 1 image) ≡ mark → StandsAt 0 (1 ∷ mark) image
first_nine image is_open long marked =
    stands_join 0 (1 ∷ []) mark image (subst (λ (byte : ℕ). StandsAt 0 (byte ∷ []) image) is_open (byte_stands 0 image (omega (arith, long)))) marked

pub reads_header : (image : List ℕ) (next : ℕ) (text : List ℕ) → StandsAt 0 (1 ∷ mark) image → ReadsText image 9 next text → StandsAt 0 (1 ∷ heading text) image
reads_header image next text nine read =
    stands_join 0 (1 ∷ mark) (counted text) image nine read.stands

pub has_other : (image : List ℕ) (next : ℕ) (text other : List ℕ) → StandsAt 0 (1 ∷ heading other) image → next < length image → ReadsText image 9 next other → other ≢ text → HasOtherText text image
has_other image next text other stands within read differs = record {
  other = other;
  rest = drop (length (1 ∷ heading other)) image;
  fits = read.fits;
  is = front_is (1 ∷ heading other) image stands;
  gate = λ none. omega (arith, ap length none, length-drop (length (1 ∷ heading other)) image, within, read.next_is, length-append mark (counted other), length-counted other);
  differs = differs;
}
