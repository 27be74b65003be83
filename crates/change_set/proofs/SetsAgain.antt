-- A set that is read fits the schema and is spelled so, and one that fits is read again.
--     change_total      the order of changes is a total one
--     set_takes, set_again      both ways
--     is_payload, is_area      what is read has the form of a payload, or of an area
--     payload_when_fit      a set that fits has a payload
use Rattle.std.proofs.Common.{◌≡◌, ℕ, zero, suc, ◌-◌, ◌^◌, Bool, true, false, not, ◌&&◌, cond, eqb, List, [], ◌∷◌, ◌++◌, length, Option, Some, None, Result, Ok, Err, refl, sym, ap, ap₂, subst, ◌∙◌, append_assoc, arith}
use Rattle.std.specs.Prelude.{◌≢◌, IfOk}
use Rattle.std.specs.Int.{w32, to_be_bytes}
use Rattle.std.specs.List.{AllByRecursion, flat_map}
use Rattle.std.specs.declared.cmp.Ordering.TheVariants.{Less}
use Rattle.std.specs.Ordering.{is_lt}
use Rattle.std.specs.Cmp.{IsTotalOrder, then_total, on_total, nat_cmp_total}
use Rattle.std.proofs.lemmas.Bool.{eqb-true, ne_eqb, and_parts}
use Rattle.std.proofs.lemmas.List.{append-nil, nil_from_length}
use Rattle.std.proofs.lemmas.List.Concat.{flat_map-cons}
use Rattle.index_tree.specs.Ordered.{IsAscending}
use Rattle.index_tree.proofs.Ascending.{less_is}
use Rattle.index_tree.proofs.Elements.{all_weaker}
use Rattle.row_types.specs.declared.tables.Schema.{Schema}
use Rattle.row_types.specs.Valid.{IsValid}
use Rattle.row_types.proofs.Orders.{key_cmp_total}
use Rattle.change_set.specs.declared.change.Change.{Change}
use Rattle.change_set.specs.declared.change.ChangeSet.{ChangeSet}
use Rattle.change_set.specs.declared.damage.Damage.{Damage}
use Rattle.change_set.specs.declared.form.Form.{Form}
use Rattle.change_set.specs.declared.form.Form.TheVariants as forms
use Rattle.change_set.specs.Sets.{table_of, rank, key_of, change_cmp}
use Rattle.change_set.specs.Fitting.{FitsSchema, AreChanges}
use Rattle.change_set.specs.Forms.{deletes, DeletesNone, may_have, may_count}
use Rattle.change_set.specs.Payload.{change_bytes, payload, HasBytes, HavePayload}
use Rattle.change_set.specs.Reading.{number_at, change_at, is_behind, next_at, then_at, with_first, changes_at, whole, counted_at, set_in, set_of, area_set, Answers}
use Rattle.change_set.proofs.Fields.{IsBytes, bind_some, when_some, Takes, takes_then, wide32, number_takes, number_again}
use Rattle.change_set.proofs.ChangesAgain.{TakesChange, change_takes, change_again, bytes_when_fit}

pub change_total : (schema : Schema) → IsTotalOrder (change_cmp schema)
change_total schema = then_total (on_total table_of nat_cmp_total) (then_total (on_total rank nat_cmp_total) (on_total (key_of schema) key_cmp_total))

module _ (schema : Schema) where
  -- each change stands behind the one before it
  abbrev AreBehind : Option Change → List Change → Type 0
  AreBehind last [] = Unit {0}
  AreBehind last (c ∷ cs) = (is_behind schema last c ≡ true) × AreBehind (Some c) cs

  -- so it stands behind all before it
  all_behind : (last : Change) (changes : List Change) → AreBehind (Some last) changes → AllByRecursion (λ c. change_cmp schema last c ≡ Less) changes × IsAscending (change_cmp schema) changes
  all_behind last [] behind = (tt, tt)
  all_behind last (c ∷ cs) behind =
      let less : change_cmp schema last c ≡ Less = less_is _ behind.0 in
      let rest = all_behind c cs behind.1 in
      ((less, all_weaker (λ (d : Change). change_cmp schema c d ≡ Less) (λ (d : Change). change_cmp schema last d ≡ Less) (λ d further. (change_total schema).trans last c d less further) cs rest.0), rest)

  ascending_behind : (changes : List Change) → AreBehind None changes → IsAscending (change_cmp schema) changes
  ascending_behind [] behind = tt
  ascending_behind (c ∷ cs) behind = all_behind c cs behind.1

  behind_ascending : (c : Change) (changes : List Change) → IsAscending (change_cmp schema) (c ∷ changes) → AreBehind (Some c) changes
  behind_ascending c [] ascending = tt
  behind_ascending c (d ∷ ds) ascending = (ap is_lt ascending.0.0, behind_ascending d ds ascending.1)

  none_behind : (changes : List Change) → IsAscending (change_cmp schema) changes → AreBehind None changes
  none_behind [] ascending = tt
  none_behind (c ∷ cs) ascending = (refl, behind_ascending c cs ascending)

  pub payload_when_fit : (changes : List Change) → IsValid schema → AreChanges schema changes → HavePayload changes
  payload_when_fit changes valid fits = record { each = all_weaker (FitsSchema schema) HasBytes (λ c fit. bytes_when_fit schema c valid fit) changes fits.each; most = fits.most }

-- each change may stand there
abbrev AreOf : Form → List Change → Type 0
AreOf form changes = AllByRecursion (λ (c : Change). may_have form c ≡ true) changes

module _ (form : Form) (schema : Schema) where
  abbrev TakesNext : Option Change → List ℕ → Change × List ℕ → Type 0
  TakesNext last bytes x = TakesChange schema bytes x × (is_behind schema last x.0 ≡ true) × (may_have form x.0 ≡ true)

  next_takes : (last : Option Change) (bytes : List ℕ) (x : Change × List ℕ) → IsBytes bytes → next_at form schema last bytes ≡ Some x → TakesNext last bytes x
  unfolding next_at
  next_takes last bytes x fits e =
      let b = bind_some (change_at schema bytes) (λ c. cond (is_behind schema last c.0 && may_have form c.0) (Some c) None) x e in
      let g = when_some (is_behind schema last b.0.0 && may_have form b.0.0) b.0 x b.2 in
      let both = and_parts (is_behind schema last b.0.0) (may_have form b.0.0) g.0 in
      let taken : TakesNext last bytes b.0 = (change_takes schema bytes b.0 fits b.1, both.0, both.1) in
      subst (TakesNext last bytes) g.1 taken

  next_again : (last : Option Change) (change : Change) (rest : List ℕ) → FitsSchema schema change → HasBytes change → is_behind schema last change ≡ true → may_have form change ≡ true → next_at form schema last (change_bytes change ++ rest) ≡ Some (change, rest)
  unfolding next_at
  next_again last change rest fits has behind may = rw (change_again schema change rest fits has, behind, may) refl

  then_ok : (place : ℕ) (r : Option (Change × List ℕ)) (f : Change × List ℕ → Result (List Change × List ℕ) ℕ) (y : List Change × List ℕ) → then_at place r f ≡ Ok y → (x : Change × List ℕ) × (r ≡ Some x) × (f x ≡ Ok y)
  then_ok place (Some x) f y e = (x, refl, e)
  then_ok place None f y e = absurd cc

  first_ok : (change : Change) (r : Result (List Change × List ℕ) ℕ) (y : List Change × List ℕ) → with_first change r ≡ Ok y → (x : List Change × List ℕ) × (r ≡ Ok x) × ((change ∷ x.0, x.1) ≡ y)
  first_ok change (Ok x) y e = (x, refl, cc)
  first_ok change (Err place) y e = absurd cc

  -- what is known of changes that were read
  record TakesChanges (n : ℕ) (last : Option Change) (bytes : List ℕ) (x : List Change × List ℕ) : Type 0 where
    takes : Takes bytes (flat_map change_bytes x.0) x.1
    count : length x.0 ≡ n
    fit : AllByRecursion (FitsSchema schema) x.0
    behind : AreBehind schema last x.0
    may : AreOf form x.0

  abbrev done : List Change × List ℕ → Result (List Change × List ℕ) ℕ
  done x = Ok x

  ok_is : (x y : List Change × List ℕ) → done x ≡ done y → x ≡ y
  ok_is x y e = cc

  changes_take : (end n : ℕ) (last : Option Change) (bytes : List ℕ) (x : List Change × List ℕ) → IsBytes bytes → changes_at form schema end n last bytes ≡ Ok x → TakesChanges n last bytes x
  unfolding changes_at
  changes_take end zero last bytes x fits e =
      let none : TakesChanges 0 last bytes ([], bytes) = record { takes = record { parts = refl; rest_fits = fits }; count = refl; fit = tt; behind = tt; may = tt } in
      subst (TakesChanges 0 last bytes) (ok_is ([], bytes) x e) none
  changes_take end (suc n) last bytes x fits e =
      let a = then_ok (end - length bytes) (next_at form schema last bytes) (λ c. with_first c.0 (changes_at form schema end n (Some c.0) c.1)) x e in
      let b = first_ok a.0.0 (changes_at form schema end n (Some a.0.0) a.0.1) x a.2 in
      let first = next_takes last bytes a.0 fits a.1 in
      let second = changes_take end n (Some a.0.0) a.0.1 b.0 first.0.0.rest_fits b.1 in
      let both = takes_then bytes (change_bytes a.0.0) a.0.1 (flat_map change_bytes b.0.0) b.0.1 first.0.0 second.takes in
      let made : TakesChanges (suc n) last bytes (a.0.0 ∷ b.0.0, b.0.1) = record { takes = rw flat_map-cons both; count = ap suc second.count; fit = (first.0.1, second.fit); behind = (first.1, second.behind); may = (first.2, second.may) } in
      subst (TakesChanges (suc n) last bytes) b.2 made

  changes_again : (end : ℕ) (last : Option Change) (changes : List Change) (rest : List ℕ) → AllByRecursion (FitsSchema schema) changes → AllByRecursion HasBytes changes → AreBehind schema last changes → AreOf form changes → changes_at form schema end (length changes) last (flat_map change_bytes changes ++ rest) ≡ Ok (changes, rest)
  unfolding changes_at
  changes_again end last [] rest fits has behind may = refl
  changes_again end last (c ∷ cs) rest fits has behind may =
      let regrouped : flat_map change_bytes (c ∷ cs) ++ rest ≡ change_bytes c ++ (flat_map change_bytes cs ++ rest) = ap (λ (x : List ℕ). x ++ rest) (flat_map-cons change_bytes c cs) ∙ append_assoc (change_bytes c) (flat_map change_bytes cs) rest in
      ap (changes_at form schema end (suc (length cs)) last) regrouped ∙ rw (next_again last c (flat_map change_bytes cs ++ rest) fits.0 has.0 behind.0 may.0, changes_again end (Some c) cs rest fits.1 has.1 behind.1 may.1) refl

  if_ok : (b : Bool) (read changes : List Change) (place : ℕ) → cond b (Ok read) (Err place) ≡ Ok changes → (b ≡ true) × (read ≡ changes)
  if_ok true read changes place e = (refl, cc)
  if_ok false read changes place e = absurd cc

  whole_ok : (end : ℕ) (r : Result (List Change × List ℕ) ℕ) (changes : List Change) → whole end r ≡ Ok changes → r ≡ Ok (changes, [])
  whole_ok end (Err place) changes e = absurd cc
  whole_ok end (Ok x) changes e =
      let g = if_ok (eqb (length x.1) 0) x.0 changes (end - length x.1) e in
      ap₂ (λ (read : List Change) (rest : List ℕ). done (read, rest)) g.1 (nil_from_length x.1 (eqb-true _ _ g.0))

  where_ok : (b : Bool) (place : ℕ) (r : Result (List Change) ℕ) (changes : List Change) → cond b r (Err place) ≡ Ok changes → r ≡ Ok changes
  where_ok true place r changes e = e
  where_ok false place r changes e = absurd cc

  counted_ok : (end : ℕ) (r : Option (ℕ × List ℕ)) (changes : List Change) → counted_at form schema end r ≡ Ok changes → (n : ℕ × List ℕ) × (r ≡ Some n) × (whole end (changes_at form schema end n.0 None n.1) ≡ Ok changes)
  counted_ok end None changes e = absurd cc
  counted_ok end (Some n) changes e = (n, refl, where_ok (may_count form n.0) 0 (whole end (changes_at form schema end n.0 None n.1)) changes e)

  pub set_takes : (bytes : List ℕ) (changes : List Change) → IsBytes bytes → set_in form schema bytes ≡ Ok changes → AreChanges schema changes × AreOf form changes × (bytes ≡ payload changes)
  set_takes bytes changes fits e =
      let a = counted_ok (length bytes) (number_at w32 bytes) changes e in
      let number = number_takes w32 (2 ^ 32) wide32 bytes a.0.0 a.0.1 fits a.1 in
      let read = whole_ok (length bytes) (changes_at form schema (length bytes) a.0.0 None a.0.1) changes a.2 in
      let rest = changes_take (length bytes) a.0.0 None a.0.1 (changes, []) number.0.rest_fits read in
      let both = (takes_then bytes (to_be_bytes w32 a.0.0) a.0.1 (flat_map change_bytes changes) [] number.0 rest.takes).parts in (
        record { each = rest.fit; ascending = ascending_behind schema changes rest.behind; most = omega (arith, rest.count, number.1) },
        rest.may,
        both ∙ append-nil (to_be_bytes w32 a.0.0 ++ flat_map change_bytes changes) ∙ ap (λ (k : ℕ). to_be_bytes w32 k ++ flat_map change_bytes changes) (sym rest.count),
      )

  pub set_again : (changes : List Change) → IsValid schema → AreChanges schema changes → AreOf form changes → may_count form (length changes) ≡ true → set_in form schema (payload changes) ≡ Ok changes
  set_again changes valid fits may count =
      let has = payload_when_fit schema changes valid fits in
      let read : changes_at form schema (length (payload changes)) (length changes) None (flat_map change_bytes changes) ≡ Ok (changes, []) = ap (changes_at form schema (length (payload changes)) (length changes) None) (sym (append-nil (flat_map change_bytes changes))) ∙ changes_again (length (payload changes)) None changes [] fits.each has.each (none_behind schema changes fits.ascending) may in
      rw (number_again w32 (2 ^ 32) wide32 (length changes) (flat_map change_bytes changes) fits.most, count, read) refl

-- whatever a change does, it may stand in a payload
any_change : (changes : List Change) → AreOf forms.Payload changes
any_change [] = tt
any_change (c ∷ cs) = (refl, any_change cs)

not_none : (changes : List Change) → changes ≢ [] → may_count forms.Payload (length changes) ≡ true
not_none [] some = absurd (some refl)
not_none (c ∷ cs) some = ap not (ne_eqb (suc (length cs)) 0 (λ e. omega (arith, e)))

keeps : (b : Bool) → not b ≡ true → b ≡ false
keeps true e = absurd cc
keeps false e = refl

deletes_none : (changes : List Change) → AreOf forms.Area changes → DeletesNone changes
deletes_none = all_weaker (λ (c : Change). may_have forms.Area c ≡ true) (λ (c : Change). deletes c ≡ false) (λ c may. keeps (deletes c) may)

area_may : (changes : List Change) → DeletesNone changes → AreOf forms.Area changes
area_may = all_weaker (λ (c : Change). deletes c ≡ false) (λ (c : Change). may_have forms.Area c ≡ true) (λ c none. ap not none)

module _ (schema : Schema) where
  pub payload_again : (changes : List Change) → IsValid schema → AreChanges schema changes → changes ≢ [] → set_of schema (payload changes) ≡ Ok changes
  payload_again changes valid fits some = set_again forms.Payload schema changes valid fits (any_change changes) (not_none changes some)

  pub area_again : (changes : List Change) → IsValid schema → AreChanges schema changes → DeletesNone changes → area_set schema (payload changes) ≡ Ok changes
  area_again changes valid fits none = set_again forms.Area schema changes valid fits (area_may changes none) refl

  pub is_payload : (bytes : List ℕ) (result : Result ChangeSet Damage) → IsBytes bytes → Answers (λ set. set.changes) result (set_of schema bytes) → IfOk result (λ set. AreChanges schema set.changes × (bytes ≡ payload set.changes))
  is_payload bytes (Ok set) fits read = let taken = set_takes forms.Payload schema bytes set.changes fits read in (taken.0, taken.2)
  is_payload bytes (Err e) fits read = tt

  pub is_area : (bytes : List ℕ) (result : Result ChangeSet Damage) → IsBytes bytes → Answers (λ set. set.changes) result (area_set schema bytes) → IfOk result (λ set. AreChanges schema set.changes × DeletesNone set.changes × (bytes ≡ payload set.changes))
  is_area bytes (Ok set) fits read = let taken = set_takes forms.Area schema bytes set.changes fits read in (taken.0, deletes_none set.changes taken.1, taken.2)
  is_area bytes (Err e) fits read = tt
