-- Bytes that stand at a place of an image, and what a write leaves of them.
use Rattle.std.proofs.Common.{◌≡◌, ◌⊎◌, inl, inr, ℕ, ◌+◌, ◌-◌, ◌<◌, ◌≤◌, max, List, [], ◌∷◌, ◌++◌, length, get_or, take, drop, refl, sym, ◌∙◌, ap, arith, append_assoc, length-append, length-drop, take-append-drop}
use Rattle.std.proofs.lemmas.List.{take_at, drop_at, drop_more, take-take, drop-take, drop-drop, length-take, length-take-le}
use Rattle.std.proofs.Math.Seq.{take-add}
use Rattle.hs_disk.specs.Disk.{written, Torn}
use Rattle.redo_journal.specs.Bytes.{StandsAt, ClosedAt}

-- they end within the image
pub stands_length : (place : ℕ) (bytes image : List ℕ) → StandsAt place bytes image → length bytes ≤ length image - place
stands_length place bytes image is =
    omega (arith, ap length is, length-take (length bytes) (drop place image), length-drop place image)

pub stands_within : (place : ℕ) (byte : ℕ) (bytes image : List ℕ) → StandsAt place (byte ∷ bytes) image → place + (1 + length bytes) ≤ length image
stands_within place byte bytes image is = omega (arith, stands_length place (byte ∷ bytes) image is)

module _ (place : ℕ) (xs ys image : List ℕ) where
  -- two pieces, one behind the other
  pub stands_join : StandsAt place xs image → StandsAt (place + length xs) ys image → StandsAt place (xs ++ ys) image
  stands_join front behind =
      ap (λ (n : ℕ). take n (drop place image)) (length-append xs ys)
      ∙ take-add (length xs) (length ys) (drop place image)
      ∙ ap (λ (l : List ℕ). take (length xs) (drop place image) ++ take (length ys) l) (drop-drop (length xs) place image)
      ∙ (λ i. front i ++ behind i)

  pub stands_split : StandsAt place (xs ++ ys) image → StandsAt place xs image × StandsAt (place + length xs) ys image
  stands_split is = (
    sym (take_at head tail (length xs) size) ∙ ap (λ (l : List ℕ). take (length xs) l) both ∙ take_at xs ys (length xs) refl,
    sym (drop_at head tail (length xs) size) ∙ ap (λ (l : List ℕ). drop (length xs) l) both ∙ drop_at xs ys (length xs) refl,
  )
    where
      head : List ℕ
      head = take (length xs) (drop place image)

      tail : List ℕ
      tail = take (length ys) (drop (place + length xs) image)

      both : head ++ tail ≡ xs ++ ys
      both =
          ap (λ (l : List ℕ). head ++ take (length ys) l) (sym (drop-drop (length xs) place image))
          ∙ sym (take-add (length xs) (length ys) (drop place image))
          ∙ ap (λ (n : ℕ). take n (drop place image)) (sym (length-append xs ys))
          ∙ is

      size : length head ≡ length xs
      size = length-take-le (length xs) (drop place image) (omega (arith, stands_length place (xs ++ ys) image is, length-append xs ys, length-drop place image))

-- a byte of an image
pub byte_stands : (place : ℕ) (image : List ℕ) → place < length image → StandsAt place (get_or image place 0 ∷ []) image
byte_stands place image within =
    ap (λ (l : List ℕ). take 1 l) (drop_more image place 0 within) ∙ take_at (get_or image place 0 ∷ []) (drop (place + 1) image) 1 refl

pub same_byte : (place byte other : ℕ) (image : List ℕ) → StandsAt place (byte ∷ []) image → StandsAt place (other ∷ []) image → byte ≡ other
same_byte place byte other image is is' = ap (λ (l : List ℕ). get_or l 0 0) (sym is ∙ is')

pub byte_is : (place byte : ℕ) (image : List ℕ) → StandsAt place (byte ∷ []) image → get_or image place 0 ≡ byte
byte_is place byte image is =
    same_byte place (get_or image place 0) byte image (byte_stands place image (omega (arith, stands_within place byte [] image is))) is

-- of the same length, bytes at one place are the same
pub same_bytes : (place : ℕ) (xs ys image : List ℕ) → length xs ≡ length ys → StandsAt place xs image → StandsAt place ys image → xs ≡ ys
same_bytes place xs ys image size is is' = sym is ∙ ap (λ (n : ℕ). take n (drop place image)) size ∙ is'

-- at the front
pub stands_front : (xs rest image : List ℕ) → image ≡ xs ++ rest → StandsAt 0 xs image
stands_front xs rest image is =
    ap (λ (l : List ℕ). take (length xs) l) (drop_at [] image 0 refl ∙ is) ∙ take_at xs rest (length xs) refl

pub front_is : (xs image : List ℕ) → StandsAt 0 xs image → image ≡ xs ++ drop (length xs) image
front_is xs image is =
    sym (take-append-drop (length xs) image) ∙ ap (λ (l : List ℕ). l ++ drop (length xs) image) (ap (λ (l : List ℕ). take (length xs) l) (sym (drop_at [] image 0 refl)) ∙ is)

-- two ranges have no place in common
abbrev pub Apart : ℕ → ℕ → ℕ → ℕ → Type 0
Apart at n place m = (place + m ≤ at) ⊎ (at + n ≤ place)

-- what a write leaves as it was, though it is torn
pub kept : (at n place : ℕ) (bytes earlier image : List ℕ) → Torn at n earlier image → Apart at n place (length bytes) → StandsAt place bytes earlier → StandsAt place bytes image
kept at n place bytes earlier image torn (inl before) is =
    sym (drop-take place (length bytes) image)
    ∙ ap (λ (l : List ℕ). drop place l) (sym (take-take (place + length bytes) at image before) ∙ ap (λ (l : List ℕ). take (place + length bytes) l) torn.before ∙ take-take (place + length bytes) at earlier before)
    ∙ drop-take place (length bytes) earlier
    ∙ is
kept at n place bytes earlier image torn (inr behind) is =
    ap (λ (l : List ℕ). take (length bytes) l) same ∙ is
  where
    k : ℕ
    k = place - (at + n)

    far : at + n + k ≡ place
    far = omega (arith, behind)

    same : drop place image ≡ drop place earlier
    same =
        ap (λ (m : ℕ). drop m image) (sym far)
        ∙ sym (drop-drop k (at + n) image)
        ∙ ap (λ (l : List ℕ). drop k l) torn.after
        ∙ drop-drop k (at + n) earlier
        ∙ ap (λ (m : ℕ). drop m earlier) far

pub closed_kept : (at n gate : ℕ) (earlier image : List ℕ) → Torn at n earlier image → Apart at n gate 1 → ClosedAt gate earlier → ClosedAt gate image
closed_kept at n gate earlier image torn apart shut = record {
  gate = shut.gate;
  stands = kept at n gate (shut.gate ∷ []) earlier image torn apart shut.stands;
  closed = shut.closed;
}

pub closed_within : (gate : ℕ) (image : List ℕ) → ClosedAt gate image → gate < length image
closed_within gate image shut = omega (arith, stands_within gate shut.gate [] image shut.stands)

-- a write that was torn may have left all as it was
pub torn_same : (at n : ℕ) (image : List ℕ) → Torn at n image image
torn_same at n image = record { before = refl; after = refl; no_shorter = omega arith; no_longer = omega arith }

module _ (at : ℕ) (bytes old : List ℕ) (within : at ≤ length old) where
  abbrev rest : List ℕ
  rest = drop (at + length bytes) old

  front : length (take at old) ≡ at
  front = length-take-le at old within

  pub length-written : length (written at bytes old) ≡ max (length old) (at + length bytes)
  length-written = omega (arith, length-append (take at old) bytes, length-append (take at old ++ bytes) rest, front, length-drop (at + length bytes) old)

  -- or may have been carried out
  pub torn_written : Torn at (length bytes) old (written at bytes old)
  torn_written = record {
    before = ap (λ (l : List ℕ). take at l) (append_assoc (take at old) bytes rest) ∙ take_at (take at old) (bytes ++ rest) at front;
    after = drop_at (take at old ++ bytes) rest (at + length bytes) (omega (arith, front, length-append (take at old) bytes));
    no_shorter = omega (arith, length-written);
    no_longer = omega (arith, length-written);
  }

  -- what was written stands there
  pub stands_written : StandsAt at bytes (written at bytes old)
  stands_written =
      ap (λ (l : List ℕ). take (length bytes) (drop at l)) (append_assoc (take at old) bytes rest)
      ∙ ap (λ (l : List ℕ). take (length bytes) l) (drop_at (take at old) (bytes ++ rest) at front)
      ∙ take_at bytes rest (length bytes) refl

-- a byte that is written over itself
pub rewritten : (place : ℕ) (image : List ℕ) → place < length image → written place (get_or image place 0 ∷ []) image ≡ image
rewritten place image within =
    append_assoc (take place image) (get_or image place 0 ∷ []) (drop (place + 1) image)
    ∙ ap (λ (l : List ℕ). take place image ++ l) (sym (drop_more image place 0 within))
    ∙ take-append-drop place image

-- a byte that is written over what a torn write of it left
pub overwritten : (place byte : ℕ) (earlier image : List ℕ) → Torn place 1 earlier image → written place (byte ∷ []) image ≡ written place (byte ∷ []) earlier
overwritten place byte earlier image torn = λ i. torn.before i ++ (byte ∷ []) ++ torn.after i
