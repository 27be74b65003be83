-- What calls of a file do to its bytes, one after another.
use Rattle.std.proofs.Common.{min, IfSome, ◌≡◌, ℕ, ◌+◌, ◌-◌, ◌<◌, ◌≤◌, max, List, [], ◌++◌, length, take, drop, Option, Some, None, option_map, Result, Ok, Err, OnOk, IfOk, refl, sym, ap, subst, ◌∙◌, arith, inl, inr, length-append, length-drop, length-take}
use Rattle.std.proofs.Math.Seq.{take-add, take-append-add, drop-append-add}
use Rattle.std.proofs.lemmas.Bool.{cases_lt}
use Rattle.std.proofs.lemmas.List.{append-nil, append_assoc, take-append-drop, take-take, take_at, take_all, take-append-le, drop_all, drop-drop, drop-take, length-take-le}
use Rattle.std.proofs.lemmas.Slice.{take-put_mid, drop-put_mid}
use borrow.Rule.Slice.PartMut.{put_mid}
use Rattle.hs_disk.specs.Disk.{written}
use Rattle.hs_disk.specs.HostFile.{Reads, ReadsAll, Puts, KeepsFront}
use Rattle.hs_disk.proofs.ImageLemmas.{length-written}

-- ---- writes one behind another are one

written-none : (at : ℕ) (held : List ℕ) → written at [] held ≡ held
written-none at held =
    let none : at + length {A = ℕ} [] ≡ at = omega arith in
    ap (λ (l : List ℕ). l ++ drop (at + length {A = ℕ} []) held) (append-nil (take at held)) ∙ ap (λ (n : ℕ). take at held ++ drop n held) none ∙ take-append-drop at held

front-size : (at : ℕ) (bytes held : List ℕ) → at ≤ length held → length (take at held ++ bytes) ≡ at + length bytes
front-size at bytes held within = omega (arith, length-append (take at held) bytes, length-take-le at held within)

written-two : (at : ℕ) (x y held : List ℕ) → at ≤ length held → written (at + length x) y (written at x held) ≡ written at (x ++ y) held
written-two at x y held within =
    let front : List ℕ = take at held ++ x in
    let rest : List ℕ = drop (at + length x) held in
    let size : length front ≡ at + length x = front-size at x held within in
    let first : take (at + length x) (front ++ rest) ≡ front = take_at front rest (at + length x) size in
    let on : at + length x + length y ≡ length front + length y = omega (arith, size) in
    let far : at + length x + length y ≡ at + length (x ++ y) = omega (arith, length-append x y) in
    let last : drop (at + length x + length y) (front ++ rest) ≡ drop (at + length (x ++ y)) held =
    ap (λ (n : ℕ). drop n (front ++ rest)) on ∙ drop-append-add front rest (length y) ∙ drop-drop (length y) (at + length x) held ∙ ap (λ (n : ℕ). drop n held) far in
    ap (λ (l : List ℕ). (l ++ y) ++ drop (at + length x + length y) (front ++ rest)) first ∙ ap (λ (l : List ℕ). (front ++ y) ++ l) last
    ∙ ap (λ (l : List ℕ). l ++ drop (at + length (x ++ y)) held) (append_assoc (take at held) x y)

pub puts-none : (at : ℕ) (o : Option (List ℕ)) → Puts at [] o o
puts-none at o held is within = is ∙ ap Some (sym (written-none at held))

pub puts-two : (at : ℕ) (x y : List ℕ) (o p q : Option (List ℕ)) → Puts at x o p → Puts (at + length x) y p q → Puts at (x ++ y) o q
puts-two at x y o p q first second held is within =
    second (written at x held) (first held is within) (omega (arith, length-written at x held within)) ∙ ap Some (written-two at x y held within)

-- a part more, as a slice from a place on has it
pub puts-on : (at : ℕ) (bytes : List ℕ) (put n : ℕ) (o p q : Option (List ℕ)) → put ≤ length bytes → Puts at (take put bytes) o p
    → Puts (at + put) (take n (take (length bytes - put) (drop put bytes))) p q → Puts at (take (put + n) bytes) o q
puts-on at bytes put n o p q within first second =
    let size : length (take put bytes) ≡ put = length-take-le put bytes within in
    let part : take n (take (length bytes - put) (drop put bytes)) ≡ take n (drop put bytes) = ap (take n) (take_all (length bytes - put) (drop put bytes) (omega (arith, length-drop put bytes))) in
    let there : Puts (at + length (take put bytes)) (take n (drop put bytes)) p q =
    subst (λ (k : ℕ). Puts (at + k) (take n (drop put bytes)) p q) (sym size) (subst (λ (l : List ℕ). Puts (at + put) l p q) part second) in
    subst (λ (l : List ℕ). Puts at l o q) (sym (take-add put n bytes)) (puts-two at (take put bytes) (take n (drop put bytes)) o p q first there)

pub puts-all : (at : ℕ) (bytes : List ℕ) (put : ℕ) (o p : Option (List ℕ)) → length bytes ≤ put → Puts at (take put bytes) o p → Puts at bytes o p
puts-all at bytes put o p all puts = subst (λ (l : List ℕ). Puts at l o p) (take_all put bytes all) puts

on-ok : {A B : Type 0} (r : Result A B) (P Q : Type 0) → (P → Q) → OnOk r P → OnOk r Q
on-ok (Ok x) P Q f p = f p
on-ok (Err e) P Q f p = tt

pub puts-three : {A B : Type 0} (r : Result A B) (at middle last : ℕ) (x y z : List ℕ) (o p q s : Option (List ℕ)) → middle ≡ at + length x → last ≡ middle + length y
    → Puts at x o p → Puts middle y p q → OnOk r (Puts last z q s) → OnOk r (Puts at (x ++ y ++ z) o s)
puts-three r at middle last x y z o p q s is_middle is_last first second third =
    let two : Puts at (x ++ y) o q = puts-two at x y o p q first (subst (λ (k : ℕ). Puts k y p q) is_middle second) in
    let there : last ≡ at + length (x ++ y) = omega (arith, is_middle, is_last, length-append x y) in
    on-ok r _ _ (λ puts. puts-two at (x ++ y) z o q s two (subst (λ (k : ℕ). Puts k z q s) there puts)) third

-- ---- what stands before a write stays

front-lower : (from end : ℕ) (xs ys : List ℕ) → from ≤ end → take end xs ≡ take end ys → take from xs ≡ take from ys
front-lower from end xs ys le same = sym (take-take from end xs le) ∙ ap (take from) same ∙ take-take from end ys le

written-front : (at : ℕ) (bytes held : List ℕ) → at ≤ length held → take at (written at bytes held) ≡ take at held
written-front at bytes held within =
    let rest : List ℕ = drop (at + length bytes) held in
    ap (take at) (append_assoc (take at held) bytes rest) ∙ take_at (take at held) (bytes ++ rest) at (length-take-le at held within)

pub front-puts : (at : ℕ) (bytes : List ℕ) (o p : Option (List ℕ)) → Puts at bytes o p → KeepsFront at o p
front-puts at bytes o p puts held is within =
    (written at bytes held, puts held is within, written-front at bytes held within, omega (arith, length-written at bytes held within))

pub front-same : (at : ℕ) (o : Option (List ℕ)) → KeepsFront at o o
front-same at o held is within = (held, is, refl, within)

-- the bytes before one place are as they were, and the file reaches the other
abbrev pub ReachesAhead : ℕ → ℕ → Option (List ℕ) → Option (List ℕ) → Type 0
ReachesAhead from end old new = (held : List ℕ) → old ≡ Some held → from ≤ length held
    → (now : List ℕ) × (new ≡ Some now) × (take from now ≡ take from held) × (end ≤ length now)

pub ahead-on : (from end next : ℕ) (zeros : List ℕ) (o p q : Option (List ℕ)) → from ≤ end → next ≡ end + length zeros → ReachesAhead from end o p → Puts end zeros p q → ReachesAhead from next o q
ahead-on from end next zeros o p q le is_next ahead puts held is within =
    let before = ahead held is within in
    let now : List ℕ = written end zeros before.0 in (
      now,
      puts before.0 before.1 before.3,
      front-lower from end now before.0 le (written-front end zeros before.0 before.3) ∙ before.2,
      omega (arith, is_next, length-written end zeros before.0 before.3),
    )

pub ahead-stops : (from end : ℕ) (o p q : Option (List ℕ)) → from ≤ end → ReachesAhead from end o p → KeepsFront end p q → KeepsFront from o q
ahead-stops from end o p q le ahead kept held is within =
    let before = ahead held is within in
    let now = kept before.0 before.1 before.3 in
    (now.0, now.1, front-lower from end now.0 before.0 le now.2 ∙ before.2, omega (arith, now.3, le))

pub ahead-ends : (from end : ℕ) (o p : Option (List ℕ)) → from ≤ end → ReachesAhead from end o p → KeepsFront from o p
ahead-ends from end o p le ahead held is within =
    let now = ahead held is within in
    (now.0, now.1, now.2, omega (arith, now.3, le))

-- ---- what a disk shows of its file

-- a cut and a drop, in either order
length-take-most : (n : ℕ) (xs : List ℕ) → length (take n xs) ≤ n
length-take-most n xs = omega (arith, length-take n xs)

length-take-least : (n : ℕ) (xs : List ℕ) → length (take n xs) ≤ length xs
length-take-least n xs = omega (arith, length-take n xs)

drop-of-take : (end len : ℕ) (held : List ℕ) → drop end (take len held) ≡ take (len - end) (drop end held)
drop-of-take end len held = elim (cases_lt len end) [
  | inl short ↦
      let none : len - end ≡ 0 = omega arith in
      let few : length (take len held) ≤ end = omega (arith, short, length-take-most len held) in
      drop_all end (take len held) few ∙ sym (ap (λ (n : ℕ). take n (drop end held)) none)
  | inr long ↦
      let parts : len ≡ end + (len - end) = omega (arith, long) in
      ap (λ (n : ℕ). drop end (take n held)) parts ∙ drop-take end (len - end) held
]

pub take-written : (at len : ℕ) (bytes held : List ℕ) → at ≤ len → at ≤ length held → take (max len (at + length bytes)) (written at bytes held) ≡ written at bytes (take len held)
take-written at len bytes held below within =
    let end : ℕ = at + length bytes in
    let front : List ℕ = take at held ++ bytes in
    let size : length front ≡ end = front-size at bytes held within in
    let most : max len end ≡ length front + (len - end) = omega (arith, size) in
    let first : take at held ≡ take at (take len held) = sym (take-take at len held below) in
    ap (λ (n : ℕ). take n (front ++ drop end held)) most ∙ take-append-add front (drop end held) (len - end)
    ∙ ap (λ (l : List ℕ). (l ++ bytes) ++ take (len - end) (drop end held)) first ∙ ap (λ (l : List ℕ). (take at (take len held) ++ bytes) ++ l) (sym (drop-of-take end len held))

-- a write into the file is one into the disk
pub shown-puts : (at len end : ℕ) (bytes : List ℕ) (o p r : Option (List ℕ)) → end ≡ at + length bytes → Puts at bytes o p
    → ((held : List ℕ) → p ≡ Some held → end ≤ length held → r ≡ Some (take (max len end) held)) → Puts at bytes (option_map (take len) o) r
shown-puts at len end bytes None p r ends puts kept seen is within = absurd cc
shown-puts at len end bytes (Some held) p r ends puts kept seen is within =
    let same : take len held ≡ seen = cc in
    let low : at ≤ length (take len held) = subst (λ (l : List ℕ). at ≤ length l) (sym same) within in
    let below : at ≤ len = omega (arith, low, length-take-most len held) in
    let inside : at ≤ length held = omega (arith, low, length-take-least len held) in
    let all : end ≤ length (written at bytes held) = omega (arith, ends, length-written at bytes held inside) in
    let far : max len end ≡ max len (at + length bytes) = ap (max len) ends in
    kept (written at bytes held) (puts held refl inside) all
    ∙ ap Some (ap (λ (n : ℕ). take n (written at bytes held)) far ∙ take-written at len bytes held below inside ∙ ap (written at bytes) same)

-- ---- reads one behind another

-- a buffer whose bytes from a place on, or up to one, were filled
pub filled-from : (got : ℕ) (old piece : List ℕ) → got ≤ length old → length piece ≡ length old - got → put_mid got (length old - got) old piece ≡ take got old ++ piece
filled-from got old piece within size =
    let end : ℕ = got + length piece in
    let new : List ℕ = put_mid got (length old - got) old piece in
    let front : take end new ≡ take got old ++ piece = take-put_mid got (length old - got) old piece end refl within in
    let back : drop end new ≡ [] = drop-put_mid got (length old - got) old piece end (omega (arith, size)) within size ∙ drop_all end old (omega (arith, size, within)) in
    sym (take-append-drop end new) ∙ ap (λ (l : List ℕ). l ++ drop end new) front ∙ ap (λ (l : List ℕ). (take got old ++ piece) ++ l) back ∙ append-nil (take got old ++ piece)

pub filled-to : (count : ℕ) (old piece : List ℕ) → count ≤ length old → length piece ≡ count → put_mid 0 count old piece ≡ piece ++ drop count old
filled-to count old piece within size =
    let new : List ℕ = put_mid 0 count old piece in
    let end : count ≡ 0 + length piece = omega (arith, size) in
    let front : take count new ≡ piece = take-put_mid 0 count old piece count end (omega arith) in
    let back : drop count new ≡ drop count old = drop-put_mid 0 count old piece count (omega arith) (omega arith) size in
    sym (take-append-drop count new) ∙ ap (λ (l : List ℕ). l ++ drop count new) front ∙ ap (λ (l : List ℕ). piece ++ l) back

-- what is handed on of an answer is what was known of it
pub handed-on : {E F : Type 0} (r : Result ℕ E) (s : Result ℕ F) (P Q : ℕ → Type 0) → IfOk s (λ n. r ≡ Ok n) → ((n : ℕ) → P n → Q n) → IfOk r P → IfOk s Q
handed-on r (Err e) P Q is each told = tt
handed-on r (Ok n) P Q is each told = each n (subst (λ r. IfOk r P) is told)

-- the first bytes of the buffer are those from a place on
abbrev pub ReadSoFar : ℕ → ℕ → Option (List ℕ) → List ℕ → Type 0
ReadSoFar at got o buf = (held : List ℕ) → o ≡ Some held → take got buf ≡ take got (drop at held)

-- what is read of a file that tells, from what is read of it where it holds these bytes
told-held : (P : List ℕ → Type 0) (o : Option (List ℕ)) (held : List ℕ) → o ≡ Some held → IfSome o P → P held
told-held P o held is told = subst (λ (o : Option (List ℕ)). IfSome o P) is told

pub tells : (P : List ℕ → Type 0) (o : Option (List ℕ)) → ((held : List ℕ) → o ≡ Some held → P held) → IfSome o P
tells P None each = tt
tells P (Some held) each = each held refl

pub read-on : (at got n : ℕ) (o p : Option (List ℕ)) (old piece new : List ℕ) → p ≡ o → got ≤ length old → new ≡ take got old ++ piece
    → ReadSoFar at got o old → IfSome p (λ held. Reads (at + got) n held piece) → ReadSoFar at (got + n) o new
read-on at got n o p old piece new same within is before told held o_is =
    let read : Reads (at + got) n held piece = told-held (λ held. Reads (at + got) n held piece) p held (same ∙ o_is) told in
    let size : length (take got old) ≡ got = length-take-le got old within in
    let on : got + n ≡ length (take got old) + n = omega (arith, size) in
    let here : take (got + n) new ≡ take got old ++ take n piece =
    ap (take (got + n)) is ∙ ap (λ (k : ℕ). take k (take got old ++ piece)) on ∙ take-append-add (take got old) piece n in
    let there : take (got + n) (drop at held) ≡ take got (drop at held) ++ take n (drop (at + got) held) =
    take-add got n (drop at held) ∙ ap (λ (l : List ℕ). take got (drop at held) ++ take n l) (drop-drop got at held) in
    here ∙ ap (λ (l : List ℕ). l ++ take n piece) (before held o_is) ∙ ap (λ (l : List ℕ). take got (drop at held) ++ l) read.bytes ∙ sym there

pub read-kept : (at got : ℕ) (o : Option (List ℕ)) (old piece new : List ℕ) → got ≤ length old → new ≡ take got old ++ piece → ReadSoFar at got o old → ReadSoFar at got o new
read-kept at got o old piece new within is before held o_is =
    ap (take got) is ∙ take_at (take got old) piece got (length-take-le got old within) ∙ before held o_is

-- so much was there
read-size : (at got : ℕ) (held buf : List ℕ) → got ≤ length buf → take got buf ≡ take got (drop at held) → got ≤ length held - at
read-size at got held buf within same =
    omega (arith, length-take-le got buf within, ap length same, length-take got (drop at held), length-drop at held)

pub read-full : (at got : ℕ) (o : Option (List ℕ)) (buf : List ℕ) → got ≤ length buf → length buf ≤ got → ReadSoFar at got o buf → IfSome o (λ held. ReadsAll at got held buf)
read-full at got o buf within full read = tells (λ held. ReadsAll at got held buf) o (λ held is. record {
  full = omega (arith, within, full, read-size at got held buf within (read held is));
  bytes = read held is;
})

pub read-ended : (at got n : ℕ) (o p : Option (List ℕ)) (buf piece new : List ℕ) → p ≡ o → got < length buf → length piece ≡ length buf - got → new ≡ take got buf ++ piece → n ≡ 0
    → ReadSoFar at got o buf → IfSome p (λ held. Reads (at + got) n held piece) → IfSome o (λ held. ReadsAll at got held new)
read-ended at got n o p buf piece new same within len is none read told = tells (λ held. ReadsAll at got held new) o (λ held o_is.
    let end : Reads (at + got) n held piece = told-held (λ held. Reads (at + got) n held piece) p held (same ∙ o_is) told in
    let size : length (take got buf) ≡ got = length-take-le got buf (omega arith) in
    let all : length new ≡ length buf = ap length is ∙ length-append (take got buf) piece ∙ omega (arith, size, len) in
    let past : length held ≤ at + got = end.none none (omega (arith, len)) in
    let here : take got new ≡ take got buf = ap (take got) is ∙ take_at (take got buf) piece got size in record {
      full = omega (arith, all, past, read-size at got held buf (omega arith) (read held o_is));
      bytes = here ∙ read held o_is;
    })

-- a read of the file is one of the disk
pub shown-reads : (at len count n : ℕ) (o : Option (List ℕ)) (piece buf rest : List ℕ) → count ≡ min (length buf) (len - at) → length piece ≡ count → buf ≡ piece ++ rest
    → IfSome o (λ held. ReadsAll at n held piece) → IfSome (option_map (take len) o) (λ seen. ReadsAll at n seen buf)
shown-reads at len count n None piece buf rest is size parts told = tt
shown-reads at len count n (Some held) piece buf rest is size parts told =
    let few : n ≤ count = omega (arith, told.full, size) in
    let low : n ≤ len - at = omega (arith, few, is) in
    let shown : take n (drop at (take len held)) ≡ take n (drop at held) = ap (take n) (drop-of-take at len held) ∙ take-take n (len - at) (drop at held) low in
    let front : take n buf ≡ take n piece = ap (take n) parts ∙ take-append-le n piece rest (omega (arith, few, size)) in record {
      full = omega (arith, told.full, size, is, length-take len held);
      bytes = front ∙ told.bytes ∙ sym shown;
    }
