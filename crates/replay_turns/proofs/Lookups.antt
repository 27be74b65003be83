-- What stands at an id, or at a number.
use Rattle.std.proofs.Common.{◌≡◌, ℕ, zero, suc, ◌+◌, ◌<◌, true, false, eqb, List, [], ◌∷◌, length, get_or, Option, Some, None, option_map, refl, sym, ap, subst, ◌∙◌, ⊎_elim, arith}
use Rattle.std.specs.Prelude.{unwrap_or}
use Rattle.std.specs.List.{AllByRecursion}
use Rattle.std.proofs.lemmas.Bool.{cases_Bool, eqb-true}
use Rattle.request_types.specs.declared.connections.ConnId.{ConnId}
use Rattle.hs_outside.specs.MemoryLink.{LinkInMemory, fresh_link}
use Rattle.line_pipeline.specs.declared.conns.Conn.{Conn}
use Rattle.line_pipeline.specs.Gathered.{conn_or_none}
use Rattle.batch_worker.specs.Linked.{link_at}
use Rattle.replay_turns.specs.declared.entries.Entry.{Entry}
use Rattle.replay_turns.specs.Linked.{Linked, linked_at, has_ended, on}
use Rattle.replay_turns.specs.Told.{left_by}
use Rattle.replay_turns.specs.Entries.{link_of, linked, all_linked, place_from}

pub found-is : {X : Type 0} (g : Conn → X) (o : Option Conn) (x : X) → option_map g o ≡ Some x → g (conn_or_none o) ≡ x
found-is g None x is = cc
found-is g (Some conn) x is = cc

pub link-is : (links : List (Option LinkInMemory)) (id : ConnId) (link : LinkInMemory) → link_at links id ≡ Some link → link_of links id ≡ link
link-is links id link is = ap (λ (o : Option LinkInMemory). unwrap_or o fresh_link) is

-- ---- the first entry of a number

-- The first entry with this number is at this place.
abbrev pub Found : ℕ → List Entry → ℕ → Type 0
Found number [] at = ⊥
Found number (e ∷ es) zero = eqb e.number number ≡ true
Found number (e ∷ es) (suc at) = (eqb e.number number ≡ false) × Found number es at

-- None has it.
abbrev pub Missing : ℕ → List Entry → Type 0
Missing number es = AllByRecursion (λ (e : Entry). eqb e.number number ≡ false) es

some_is : {X : Type 0} (a b : X) → Some a ≡ Some b → a ≡ b
some_is a b is = cc

found-from : (number start : ℕ) (es : List Entry) (at : ℕ) → place_from start number es ≡ Some at → (k : ℕ) × (at ≡ start + k) × Found number es k
found-from number start [] at is = cc
found-from number start (e ∷ es) at is =
    ⊎_elim
    (λ here. (0, omega (arith, some_is start at (sym (rw here refl) ∙ is)), here))
    (λ other.
    let later = found-from number (start + 1) es at (rw other refl ∙ is) in
    (suc later.0, omega (arith, later.1), (other, later.2)))
    (cases_Bool (eqb e.number number))

pub found : (number : ℕ) (es : List Entry) (at : ℕ) → place_from 0 number es ≡ Some at → Found number es at
found number es at is =
    let f = found-from number 0 es at is in
    subst (λ (k : ℕ). Found number es k) (omega (arith, f.1)) f.2

missing-from : (number start : ℕ) (es : List Entry) → place_from start number es ≡ None → Missing number es
missing-from number start [] is = tt
missing-from number start (e ∷ es) is =
    ⊎_elim
    (λ here. absurd (none_some start (sym (rw here refl ∙ is))))
    (λ other. (other, missing-from number (start + 1) es (rw other refl ∙ is)))
    (cases_Bool (eqb e.number number))
  where
    none_some : (n : ℕ) → ◌≡◌ {A = Option ℕ} None (Some n) → ⊥
    none_some n is = cc

pub missing : (number : ℕ) (es : List Entry) → place_from 0 number es ≡ None → Missing number es
missing number es is = missing-from number 0 es is

pub below : (number : ℕ) (es : List Entry) (at : ℕ) → Found number es at → at < length es
below number [] at is = absurd is
below number (e ∷ es) zero is = omega arith
below number (e ∷ es) (suc at) is = omega (arith, below number es at is.1)

pub found-number : (number : ℕ) (es : List Entry) (at : ℕ) (d : Entry) → Found number es at → (get_or es at d).number ≡ number
found-number number [] at d is = absurd is
found-number number (e ∷ es) zero d is = eqb-true e.number number is
found-number number (e ∷ es) (suc at) d is = found-number number es at d is.1

-- ---- the connection of a number

module _ (cs : List (ConnId × Conn)) (links : List (Option LinkInMemory)) where
  pub linked_at-missing : (number : ℕ) (es : List Entry) → Missing number es → linked_at number (all_linked cs links es) ≡ None
  linked_at-missing number [] none = refl
  linked_at-missing number (e ∷ es) none = rw none.0 (linked_at-missing number es none.1)

  pub on-missing : (number : ℕ) (f : Linked → Linked) (es : List Entry) → Missing number es → on number f (all_linked cs links es) ≡ all_linked cs links es
  on-missing number f [] none = refl
  on-missing number f (e ∷ es) none = rw none.0 (ap (λ (ls : List Linked). linked cs links e ∷ ls) (on-missing number f es none.1))

  pub left_by-missing : (number : ℕ) (es : List Entry) → Missing number es → left_by number (all_linked cs links es) ≡ all_linked cs links es
  left_by-missing number [] none = refl
  left_by-missing number (e ∷ es) none = rw none.0 (ap (λ (ls : List Linked). linked cs links e ∷ ls) (left_by-missing number es none.1))

  pub linked_at-found : (number : ℕ) (es : List Entry) (at : ℕ) (d : Entry) → Found number es at → linked_at number (all_linked cs links es) ≡ Some (linked cs links (get_or es at d))
  linked_at-found number [] at d is = absurd is
  linked_at-found number (e ∷ es) zero d is = rw is refl
  linked_at-found number (e ∷ es) (suc at) d is = rw is.0 (linked_at-found number es at d is.1)

  pub has_ended-found : (number : ℕ) (es : List Entry) (at : ℕ) (d : Entry) → Found number es at → has_ended number (all_linked cs links es) ≡ (link_of links (get_or es at d).id).peer_ended
  has_ended-found number [] at d is = absurd is
  has_ended-found number (e ∷ es) zero d is = rw is refl
  has_ended-found number (e ∷ es) (suc at) d is = rw is.0 (has_ended-found number es at d is.1)

  pub has_ended-missing : (number : ℕ) (es : List Entry) → Missing number es → has_ended number (all_linked cs links es) ≡ false
  has_ended-missing number [] none = refl
  has_ended-missing number (e ∷ es) none = rw none.0 (has_ended-missing number es none.1)
