-- Connections under their numbers.
use Rattle.std.proofs.Common.{◌≡◌, ℕ, zero, suc, ◌+◌, ◌<◌, true, false, eqb, List, [], ◌∷◌, Option, Some, None, is_some, get_or, set, refl, sym, ap, ◌∙◌, ⊎_elim, arith}
use Rattle.std.specs.Prelude.{if◌then◌else◌}
use Rattle.std.proofs.lemmas.Bool.{cases_Bool, ne_eqb, eq-eqb, eqb-true, both_ways}
use Rattle.request_types.specs.declared.connections.ConnId.{ConnId}
use Rattle.line_pipeline.specs.declared.conns.Conn.{Conn}
use Rattle.line_pipeline.specs.declared.slots.Slot.{Slot}
use Rattle.request_types.specs.Ids.{same_id}
use Rattle.line_pipeline.specs.Table.{conn_at, is_held, changed}
use Rattle.line_pipeline.specs.Slots.{conns_from}

pub zero_more : (n : ℕ) → 0 + n ≡ n
zero_more n = omega arith

-- the connection of a slot, where it has this generation
abbrev pub of_slot : Option Slot → ℕ → Option Conn
of_slot None generation = None
of_slot (Some slot) generation = if eqb slot.generation generation then Some slot.conn else None

-- no connection has a number below the first
pub conn_at-before : (n : ℕ) (slots : List (Option Slot)) (id : ConnId) → id.number < n → conn_at (conns_from n slots) id ≡ None
conn_at-before n [] id below = refl
conn_at-before n (None ∷ slots) id below = conn_at-before (n + 1) slots id (omega arith)
conn_at-before n (Some slot ∷ slots) id below =
    let apart : eqb n id.number ≡ false = ne_eqb n id.number (omega arith) in
    rw apart (conn_at-before (n + 1) slots id (omega arith))

pub changed-before : (f : Conn → Conn) (n : ℕ) (slots : List (Option Slot)) (id : ConnId) → id.number < n → changed id f (conns_from n slots) ≡ conns_from n slots
changed-before f n [] id below = refl
changed-before f n (None ∷ slots) id below = changed-before f (n + 1) slots id (omega arith)
changed-before f n (Some slot ∷ slots) id below =
    let apart : eqb n id.number ≡ false = ne_eqb n id.number (omega arith) in
    rw (apart, changed-before f (n + 1) slots id (omega arith)) refl

-- a connection is found under its number
pub conn_at-from : (n k : ℕ) (slots : List (Option Slot)) (id : ConnId) → id.number ≡ n + k → conn_at (conns_from n slots) id ≡ of_slot (get_or slots k None) id.generation
conn_at-from n k [] id is = refl
conn_at-from n zero (None ∷ slots) id is = conn_at-before (n + 1) slots id (omega arith)
conn_at-from n zero (Some slot ∷ slots) id is =
    let here : eqb n id.number ≡ true = eq-eqb n id.number (omega arith) in
    rw here (ap (λ (t : Option Conn). if eqb slot.generation id.generation then Some slot.conn else t) (conn_at-before (n + 1) slots id (omega arith)))
conn_at-from n (suc k) (None ∷ slots) id is = conn_at-from (n + 1) k slots id (omega arith)
conn_at-from n (suc k) (Some slot ∷ slots) id is =
    let apart : eqb n id.number ≡ false = ne_eqb n id.number (omega arith) in
    rw apart (conn_at-from (n + 1) k slots id (omega arith))

-- a connection is changed under its number
pub some_is : (a b : Slot) → ◌≡◌ {A = Option Slot} (Some a) (Some b) → a ≡ b
some_is a b is = cc

pub none_is : (slot : Slot) → ◌≡◌ {A = Option Slot} None (Some slot) → ⊥
none_is slot is = cc

pub changed-from : (f : Conn → Conn) (n k : ℕ) (slots : List (Option Slot)) (id : ConnId) (slot : Slot) → id.number ≡ n + k → get_or slots k None ≡ Some slot → slot.generation ≡ id.generation → changed id f (conns_from n slots) ≡ conns_from n (set slots k (Some (record { generation = slot.generation; conn = f slot.conn })))
changed-from f n k [] id slot is there same = absurd (none_is slot there)
changed-from f n zero (None ∷ slots) id slot is there same = absurd (none_is slot there)
changed-from f n zero (Some first ∷ slots) id slot is there same =
    let here : eqb n id.number ≡ true = eq-eqb n id.number (omega arith) in
    let first_is : first ≡ slot = some_is first slot there in
    let agrees : eqb first.generation id.generation ≡ true = eq-eqb first.generation id.generation (ap (λ (s : Slot). s.generation) first_is ∙ same) in
    rw (here, agrees, changed-before f (n + 1) slots id (omega arith), first_is) refl
changed-from f n (suc k) (None ∷ slots) id slot is there same = changed-from f (n + 1) k slots id slot (omega arith) there same
changed-from f n (suc k) (Some first ∷ slots) id slot is there same =
    let apart : eqb n id.number ≡ false = ne_eqb n id.number (omega arith) in
    rw (apart, changed-from f (n + 1) k slots id slot (omega arith) there same) refl

pub none_is_some : {X : Type 0} {x : X} → ◌≡◌ {A = Option X} None (Some x) → ⊥
none_is_some is = cc

set_same : (slots : List (Option Slot)) (k : ℕ) (slot : Option Slot) → get_or slots k None ≡ slot → set slots k slot ≡ slots
set_same [] k slot is = refl
set_same (first ∷ slots) zero slot is = ap (λ (s : Option Slot). s ∷ slots) (sym is)
set_same (first ∷ slots) (suc k) slot is = ap (λ (t : List (Option Slot)). first ∷ t) (set_same slots k slot is)

-- a connection that isn't held is not changed
pub changed-absent : (f : Conn → Conn) (id : ConnId) (cs : List (ConnId × Conn)) → conn_at cs id ≡ None → changed id f cs ≡ cs
changed-absent f id [] none = refl
changed-absent f id (c ∷ cs) none =
    ⊎_elim
    (λ is. let there : conn_at (c ∷ cs) id ≡ Some c.1 = rw is refl in absurd (none_is_some (sym none ∙ there)))
    (λ other.
    let later : conn_at (c ∷ cs) id ≡ conn_at cs id = rw other refl in
    rw other (ap (λ (t : List (ConnId × Conn)). c ∷ t) (changed-absent f id cs (sym later ∙ none))))
    (cases_Bool (same_id c.0 id))

get_set : (slots : List (Option Slot)) (k : ℕ) (new old : Slot) → get_or slots k None ≡ Some old → get_or (set slots k (Some new)) k None ≡ Some new
get_set [] k new old there = absurd (none_is old there)
get_set (first ∷ slots) zero new old there = refl
get_set (first ∷ slots) (suc k) new old there = get_set slots k new old there

set_set : (slots : List (Option Slot)) (k : ℕ) (x y : Option Slot) → set (set slots k x) k y ≡ set slots k y
set_set [] k x y = refl
set_set (first ∷ slots) zero x y = refl
set_set (first ∷ slots) (suc k) x y = ap (λ (t : List (Option Slot)). first ∷ t) (set_set slots k x y)

-- a slot under a number that has the generation
pub record HasSlot (slots : List (Option Slot)) (id : ConnId) : Type 0 where
  pub slot : Slot
  pub there : get_or slots id.number None ≡ Some slot
  pub same : slot.generation ≡ id.generation

-- what is found under an id
module _ (slots : List (Option Slot)) (id : ConnId) where
  at_slot : (slot : Option Slot) → get_or slots id.number None ≡ slot → conn_at (conns_from 0 slots) id ≡ of_slot slot id.generation
  at_slot slot there = conn_at-from 0 id.number slots id (sym (zero_more id.number)) ∙ ap (λ (s : Option Slot). of_slot s id.generation) there

  pub at_found : (slot : Slot) → get_or slots id.number None ≡ Some slot → slot.generation ≡ id.generation → conn_at (conns_from 0 slots) id ≡ Some slot.conn
  at_found slot there same = at_slot (Some slot) there ∙ (let here : eqb slot.generation id.generation ≡ true = eq-eqb slot.generation id.generation same in rw here refl)

  pub at_missing : get_or slots id.number None ≡ None → conn_at (conns_from 0 slots) id ≡ None
  at_missing none = at_slot None none

  pub at_stale : (slot : Slot) → get_or slots id.number None ≡ Some slot → (slot.generation ≡ id.generation → ⊥) → conn_at (conns_from 0 slots) id ≡ None
  at_stale slot there other = at_slot (Some slot) there ∙ (let apart : eqb slot.generation id.generation ≡ false = ne_eqb slot.generation id.generation other in rw apart refl)

  -- what a change of the connection under an id comes to
  pub changed_found : (f : Conn → Conn) (slot : Slot) (new : Conn) → get_or slots id.number None ≡ Some slot → slot.generation ≡ id.generation → new ≡ f slot.conn → conns_from 0 (set slots id.number (Some (record { generation = slot.generation; conn = new }))) ≡ changed id f (conns_from 0 slots)
  changed_found f slot new there same is = rw is (sym (changed-from f 0 id.number slots id slot (sym (zero_more id.number)) there same))

  pub changed_missing : (f : Conn → Conn) → get_or slots id.number None ≡ None → conns_from 0 slots ≡ changed id f (conns_from 0 slots)
  changed_missing f none = sym (changed-absent f id (conns_from 0 slots) (at_missing none))

  pub changed_stale : (f : Conn → Conn) (slot : Slot) → get_or slots id.number None ≡ Some slot → (slot.generation ≡ id.generation → ⊥) → conns_from 0 (set slots id.number (Some slot)) ≡ changed id f (conns_from 0 slots)
  changed_stale f slot there other =
      ap (conns_from 0) (set_same slots id.number (Some slot) there) ∙ sym (changed-absent f id (conns_from 0 slots) (at_stale slot there other))

  -- whatever it was changed to before
  pub changed_anyway : (f : Conn → Conn) (slot : Slot) (new : Conn) → get_or slots id.number None ≡ Some slot → slot.generation ≡ id.generation → f new ≡ f slot.conn → changed id f (conns_from 0 (set slots id.number (Some (record { generation = slot.generation; conn = new })))) ≡ changed id f (conns_from 0 slots)
  changed_anyway f slot new there same is =
      let now : Slot = record { generation = slot.generation; conn = new } in
      let after : Slot = record { generation = slot.generation; conn = f new } in
      changed-from f 0 id.number (set slots id.number (Some now)) id now (sym (zero_more id.number)) (get_set slots id.number now slot there) same
      ∙ ap (conns_from 0) (set_set slots id.number (Some now) (Some after))
      ∙ changed_found f slot (f new) there same is

  has_slot : (slot : Option Slot) → get_or slots id.number None ≡ slot → is_some (of_slot slot id.generation) ≡ true → HasSlot slots id
  has_slot None there held = absurd (both_ways false refl held)
  has_slot (Some slot) there held =
      ⊎_elim
      (λ same. record { slot = slot; there = there; same = eqb-true slot.generation id.generation same })
      (λ other. let none : is_some (of_slot (Some slot) id.generation) ≡ false = rw other refl in absurd (both_ways _ none held))
      (cases_Bool (eqb slot.generation id.generation))

  -- the place of a connection that is held
  pub slot_held : is_held (conns_from 0 slots) id ≡ true → HasSlot slots id
  slot_held held = has_slot (get_or slots id.number None) refl (sym (ap is_some (at_slot (get_or slots id.number None) refl)) ∙ held)
