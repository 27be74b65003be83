-- Reading changes one after the other, as a loop does.
--     with_front, last_of      what was read before and what is still read, and the last that was read
--     last_pushed      that is the one read last
--     changes_go_on, changes_end, changes_done      one change more, a fault, and the end
use Rattle.std.proofs.Common.{◌≡◌, ℕ, suc, ◌+◌, ◌-◌, ◌<◌, ◌≤◌, List, [], ◌∷◌, ◌++◌, length, Option, Some, Result, Ok, Err, refl, sym, ap, ◌∙◌, append_assoc, arith, length-append}
use Rattle.std.specs.Prelude.{slice_get}
use Rattle.std.proofs.lemmas.List.{append-nil}
use Rattle.row_types.specs.declared.tables.Schema.{Schema}
use Rattle.change_set.specs.declared.change.Change.{Change}
use Rattle.change_set.specs.declared.form.Form.{Form}
use Rattle.change_set.specs.declared.fault.Fault.{Fault}
use Rattle.change_set.specs.declared.fault.Fault.TheVariants as faults
use Rattle.change_set.specs.Reading.{Fails, with_first, next_at, changes_at, damage_at, AnswersNo}

abbrev pub Read : Type 0
Read = Result (List Change × List ℕ) ℕ

abbrev pub with_front : List Change → Read → Read
with_front front (Ok x) = Ok (front ++ x.0, x.1)
with_front front (Err place) = Err place

-- the last of some changes
abbrev pub last_of : List Change → Option Change
last_of changes = slice_get changes (length changes - 1)

seam : (changes : List Change) (change : Change) → slice_get (changes ++ change ∷ []) (length changes) ≡ Some change
seam [] change = refl
seam (first ∷ changes) change = seam changes change

pub last_pushed : (changes : List Change) (change : Change) → last_of (changes ++ change ∷ []) ≡ Some change
last_pushed changes change =
    let n : length (changes ++ change ∷ []) - 1 ≡ length changes = omega (arith, length-append changes (change ∷ [])) in
    ap (slice_get (changes ++ change ∷ [])) n ∙ seam changes change

regroup : (front : List Change) (change : Change) (read : Read) → with_front front (with_first change read) ≡ with_front (front ++ change ∷ []) read
regroup front change (Err place) = refl
regroup front change (Ok x) = ap (λ (changes : List Change). Ok (changes, x.1)) (sym (append_assoc front (change ∷ []) x.0))

module _ (form : Form) (schema : Schema) (end : ℕ) where
  pub changes_go_on : (front : List Change) (count i : ℕ) (last : Option Change) (bytes : List ℕ) (change : Change) (after : List ℕ) (total : Read) → i < count → next_at form schema last bytes ≡ Some (change, after)
      → with_front front (changes_at form schema end (count - i) last bytes) ≡ total → with_front (front ++ change ∷ []) (changes_at form schema end (count - (i + 1)) (Some change) after) ≡ total
  unfolding changes_at
  changes_go_on front count i last bytes change after total lt read so_far =
      let k : count - i ≡ suc (count - (i + 1)) = omega arith in
      let one : with_front front (changes_at form schema end (count - i) last bytes) ≡ with_front (front ++ change ∷ []) (changes_at form schema end (count - (i + 1)) (Some change) after) = rw (k, read) (regroup front change (changes_at form schema end (count - (i + 1)) (Some change) after)) in
      sym one ∙ so_far

  pub changes_end : (fault : Fault) (front : List Change) (count i : ℕ) (last : Option Change) (bytes : List ℕ) (total : Read) → i < count → Fails fault (next_at form schema last bytes)
      → with_front front (changes_at form schema end (count - i) last bytes) ≡ total → AnswersNo (damage_at (end - length bytes) fault) total
  unfolding changes_at
  changes_end faults.NoMemory front count i last bytes total lt fails so_far = tt
  changes_end faults.Unreadable front count i last bytes total lt fails so_far =
      let k : count - i ≡ suc (count - (i + 1)) = omega arith in
      let one : with_front front (changes_at form schema end (count - i) last bytes) ≡ Err (end - length bytes) = rw (k, fails) refl in
      sym so_far ∙ one

  pub changes_done : (front : List Change) (count i : ℕ) (last : Option Change) (bytes : List ℕ) (total : Read) → count ≤ i → with_front front (changes_at form schema end (count - i) last bytes) ≡ total → total ≡ Ok (front, bytes)
  unfolding changes_at
  changes_done front count i last bytes total le so_far =
      let k : count - i ≡ 0 = omega arith in
      let one : with_front front (changes_at form schema end (count - i) last bytes) ≡ Ok (front, bytes) = rw k (ap (λ (changes : List Change). Ok (changes, bytes)) (append-nil front)) in
      sym so_far ∙ one
