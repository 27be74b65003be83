-- Known bytes that grow, and known bytes of which some are given.
use Rattle.std.proofs.Common.{◌≡◌, ℕ, ◌-◌, List, [], ◌++◌, length, take, drop, Option, Some, None, IfSome, Result, Ok, Err, refl, sym, ap, subst, ◌∙◌, append_assoc}
use Rattle.std.specs.Prelude.{unwrap_or}
use Rattle.std.proofs.lemmas.List.{append-nil, take-append-drop, take_rest}
use Rattle.std.specs.Io.KnownBytes.{append_known, prepend_known}
use Rattle.hs_outside.specs.Streams.{Giver, Taker, Gave, IsAll, Grew, GrewPart, Rose, SendDoes}

-- ---- bytes that a sink took

append_known-nil : (o : Option (List ℕ)) → append_known o [] ≡ o
append_known-nil None = refl
append_known-nil (Some t) = ap Some (append-nil t)

append_known-append : (o : Option (List ℕ)) (x y : List ℕ) → append_known (append_known o x) y ≡ append_known o (x ++ y)
append_known-append None x y = refl
append_known-append (Some t) x y = ap Some (append_assoc t x y)

pub grew_none : (o p : Taker) → p.taken ≡ o.taken → Grew o p []
grew_none o p same = same ∙ sym (append_known-nil o.taken)

pub grew_two : (o p q : Taker) (x y : List ℕ) → Grew o p x → Grew p q y → Grew o q (x ++ y)
grew_two o p q x y first second =
    second ∙ ap (λ (r : Option (List ℕ)). append_known r y) first ∙ append_known-append o.taken x y

pub grew_as : (o p : Taker) (x y : List ℕ) → x ≡ y → Grew o p x → Grew o p y
grew_as o p x y e grew = subst (λ (t : List ℕ). Grew o p t) e grew

pub part_as : (o p : Taker) (x y : List ℕ) → x ≡ y → GrewPart o p x → GrewPart o p y
part_as o p x y e part = subst (λ (t : List ℕ). GrewPart o p t) e part

pub part_none : (o p : Taker) (x : List ℕ) → p.taken ≡ o.taken → GrewPart o p x
part_none o p x same = record { part = []; more = x; is = refl; grew = grew_none o p same }

pub part_whole : (o p : Taker) (x y : List ℕ) → Grew o p x → GrewPart o p (x ++ y)
part_whole o p x y grew = record { part = x; more = y; is = refl; grew = grew }

pub part_more : (o p : Taker) (x y : List ℕ) → GrewPart o p x → GrewPart o p (x ++ y)
part_more o p x y g =
    record { part = g.part; more = g.more ++ y; is = ap (λ (t : List ℕ). t ++ y) g.is ∙ append_assoc g.part g.more y; grew = g.grew }

pub part_two : (o p q : Taker) (x y : List ℕ) → Grew o p x → GrewPart p q y → GrewPart o q (x ++ y)
part_two o p q x y first g =
    record { part = x ++ g.part; more = g.more; is = ap (λ (t : List ℕ). x ++ t) g.is ∙ sym (append_assoc x g.part g.more); grew = grew_two o p q x g.part first g.grew }

-- no fault came, and then one
pub rose_from : (a b c : ℕ) → b ≡ a → Rose b c → Rose a c
rose_from a b c same rose = subst (λ (n : ℕ). Rose n c) same rose

-- bytes that were taken, and then what comes of others
pub sent_two : {U F : Type 0} (sent : Result U F) (o p q : Taker) (x y : List ℕ) → Grew o p x → p.faults ≡ o.faults → SendDoes sent p q y → SendDoes sent o q (x ++ y)
sent_two (Ok v) o p q x y first same second = (grew_two o p q x y first second.0, second.1 ∙ same)
sent_two (Err e) o p q x y first same second = (part_two o p q x y first second.0, rose_from o.faults p.faults q.faults same second.1)

-- n bytes on
pub rest_on : (bytes done rest : List ℕ) (n : ℕ) → bytes ≡ done ++ rest → bytes ≡ (done ++ take n rest) ++ take (length rest - n) (drop n rest)
rest_on bytes done rest n is = is ∙ rw (take_rest rest n, append_assoc, take-append-drop) refl

-- ---- bytes that a source gave

prepend_known-append : (o : Option (List ℕ)) (x y : List ℕ) → prepend_known x (prepend_known y o) ≡ prepend_known (x ++ y) o
prepend_known-append None x y = refl
prepend_known-append (Some t) x y = ap Some (sym (append_assoc x y t))

pub gave_two : (s t u : Giver) (x y : List ℕ) → Gave s t x → Gave t u y → Gave s u (x ++ y)
gave_two s t u x y first second =
    first ∙ ap (prepend_known x) second ∙ prepend_known-append u.left x y

pub gave_same : (s t u : Giver) (x : List ℕ) → Gave s t x → u.left ≡ t.left → Gave s u x
gave_same s t u x gave same = gave ∙ ap (prepend_known x) (sym same)

all_left : (l m : Option (List ℕ)) (bytes : List ℕ) → l ≡ prepend_known bytes m → IfSome l (λ left. left ≡ bytes ++ unwrap_or m [])
all_left l None bytes e = subst (λ (o : Option (List ℕ)). IfSome o (λ left. left ≡ bytes ++ [])) (sym e) tt
all_left l (Some xs) bytes e = subst (λ (o : Option (List ℕ)). IfSome o (λ left. left ≡ bytes ++ xs)) (sym e) refl

-- all that was left: what was given, and what is left, where that is known
pub all_of : (s t : Giver) (bytes : List ℕ) → Gave s t bytes → IsAll s (bytes ++ unwrap_or t.left [])
all_of s t bytes gave = all_left s.left t.left bytes gave

all_at_end : (l m : Option (List ℕ)) (bytes : List ℕ) → l ≡ prepend_known bytes m → IfSome m (λ left. left ≡ []) → IfSome l (λ left. left ≡ bytes)
all_at_end l None bytes e ended = subst (λ (o : Option (List ℕ)). IfSome o (λ left. left ≡ bytes)) (sym e) tt
all_at_end l (Some xs) bytes e ended =
    subst (λ (o : Option (List ℕ)). IfSome o (λ left. left ≡ bytes)) (sym e) (ap (λ (t : List ℕ). bytes ++ t) ended ∙ append-nil bytes)

pub all_given : (s t : Giver) (bytes : List ℕ) → Gave s t bytes → IsAll t [] → IsAll s bytes
all_given s t bytes gave ended = all_at_end s.left t.left bytes gave ended

pub all_same : (t u : Giver) (x : List ℕ) → u.left ≡ t.left → IsAll t x → IsAll u x
all_same t u x same all = subst (λ (o : Option (List ℕ)). IfSome o (λ left. left ≡ x)) (sym same) all
