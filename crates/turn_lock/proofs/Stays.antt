-- What one changed view leaves of the rule.
use Rattle.std.proofs.Common.{◌≡◌, ◌≢◌, ℕ, ◌≤◌, true, false, true≢false, List, [], ◌∷◌, length, set, Some, None, refl, sym, ap, ◌∙◌, subst, length-set, arith}
use mathlib.Core.Option.{some, some-injective}
use mathlib.Core.Logic.{dite}
use native.Mathlib.Decide.{ℕ_discrete}
use lib.ListN.{get_elem?}
use Rattle.std.specs.Prelude.{Option}
use Rattle.atomic_table.proofs.Lists.{set_here, set_else}
use Rattle.turn_lock.specs.declared.view.View.{View}
use Rattle.turn_lock.specs.declared.view.Stage.{Stage}
use Rattle.turn_lock.specs.declared.view.Stage.TheVariants.{Rests, Deals, Waits, Holds, Joins, Spent}
use Rattle.turn_lock.specs.Serial.{IsAt, IsHome, IsOut, IsSeen, HasTicket, holds_at, knows_at, lives_at, tickets_at}
use Rattle.known_lists.proofs.Totals.{within, over}

-- the second of two equal things is the first
pub same_view : {A : Type 0} (l : List A) (i : ℕ) (v u : A) → get_elem? l i ≡ some v → get_elem? l i ≡ some u → v ≡ u
same_view l i v u e d = some-injective v u (sym e ∙ d)

pub some_is : {A : Type 0} (a b : A) → Some a ≡ Some b → a ≡ b
some_is a b e = cc

abbrev value_in : {A : Type 0} → A → Option A → A
value_in d (Some a) = a
value_in d None = d

abbrev slot_value : {A : Type 0} → A → List (ℕ × Option A) → A
slot_value d [] = d
slot_value d (x ∷ xs) = value_in d x.1

-- what lies in the one slot that a seat has
pub slot_is : {A : Type 0} (a b : A) (slots : List (ℕ × Option A)) → slots ≡ (0, Some a) ∷ [] → slots ≡ (0, Some b) ∷ [] → a ≡ b
slot_is a b slots p q = ap (slot_value a) (sym p ∙ q)

abbrev ticket_of : {E : Type 0} → Stage E → ℕ
ticket_of (Waits k) = k
ticket_of Rests = 0
ticket_of (Deals k) = 0
ticket_of (Holds k) = 0
ticket_of (Joins k a b c) = 0
ticket_of Spent = 0

pub waits_is : {E : Type 0} (st : Stage E) (m n : ℕ) → st ≡ Waits m → st ≡ Waits n → m ≡ n
waits_is st m n p q = ap ticket_of (sym p ∙ q)

pub no_ticket : {E : Type 0} (n : ℕ) (st : Stage E) → tickets_at st ≡ 0 → HasTicket n st → ⊥
no_ticket n Rests e h = h
no_ticket n (Deals k) e h = h
no_ticket n (Waits m) e h = omega arith
no_ticket n (Holds m) e h = omega arith
no_ticket n (Joins k a b c) e h = h
no_ticket n Spent e h = h

pub one_ticket : {E : Type 0} (st : Stage E) → tickets_at st ≤ 1
one_ticket Rests = omega arith
one_ticket (Deals k) = omega arith
one_ticket (Waits m) = omega arith
one_ticket (Holds m) = omega arith
one_ticket (Joins k a b c) = omega arith
one_ticket Spent = omega arith

pub lives_knows : {E : Type 0} (st : Stage E) → lives_at st ≡ true → knows_at st ≡ true
lives_knows Rests e = refl
lives_knows (Deals k) e = refl
lives_knows (Waits m) e = refl
lives_knows (Holds m) e = refl
lives_knows (Joins k a b c) e = refl
lives_knows Spent e = e

module _ {B E : Type 0} where
  -- each ticket is still somebody's, where the changed view keeps those that it had
  pub tickets_stay : (views : List (View B E)) (holder : ℕ → ℕ) (id : ℕ) (v w : View B E) (n : ℕ) → get_elem? views id ≡ some v → (HasTicket n v.stage → HasTicket n w.stage)
      → ((u : View B E) × (get_elem? views (holder n) ≡ some u) × HasTicket n u.stage) → (u : View B E) × (get_elem? (set views id w) (holder n) ≡ some u) × HasTicket n u.stage
  tickets_stay views holder id v w n at keeps t =
      dite (ℕ_discrete (holder n) id)
      (λ (e : holder n ≡ id).
      let same : t.0 ≡ v = same_view views id t.0 v (subst (λ (j : ℕ). get_elem? views j ≡ some t.0) e t.1) at in
      (w, subst (λ (j : ℕ). get_elem? (set views id w) j ≡ some w) (sym e) (set_here views id w (within views id v at)), keeps (subst (λ (x : View B E). HasTicket n x.stage) same t.2)))
      (λ (ne : holder n ≢ id). (t.0, set_else views id (holder n) w ne ∙ t.1, t.2))

  module _ (stands : B → List E → B → Type 0) (maker : E → ℕ) (place : B → ℕ) (faults : B → ℕ) where
    -- a history that somebody saw whole is still seen, where the changed view still sees what it saw
    pub seen_stays : (history : List E) (views : List (View B E)) (id : ℕ) (v w : View B E) → get_elem? views id ≡ some v → w.seen ≡ v.seen → knows_at w.stage ≡ true
        → IsSeen stands maker place faults history views → IsSeen stands maker place faults history (set views id w)
    seen_stays history views id v w at same knows s =
        dite (ℕ_discrete s.seat id)
        (λ (e : s.seat ≡ id).
        let is : s.view ≡ v = same_view views id s.view v (subst (λ (j : ℕ). get_elem? views j ≡ some s.view) e s.there) at in
        record { seat = id; view = w; there = set_here views id w (within views id v at); knows = knows; whole = same ∙ ap (λ (x : View B E). x.seen) (sym is) ∙ s.whole })
        (λ (ne : s.seat ≢ id). record { seat = s.seat; view = s.view; there = set_else views id s.seat w ne ∙ s.there; knows = s.knows; whole = s.whole })

    -- who has the turn has it still, where the changed view is another's
    pub out_stays : (served : ℕ) (holder : ℕ → ℕ) (most : ℕ) (views : List (View B E)) (id : ℕ) (v w : View B E) → get_elem? views id ≡ some v → holds_at v.stage ≡ false
        → IsOut stands maker place faults served holder most views → (holder served ≢ id) × IsOut stands maker place faults served holder most (set views id w)
    out_stays served holder most views id v w at idle out =
        let apart : holder served ≢ id = λ (e : holder served ≡ id).
        let is : out.view ≡ v = same_view views id out.view v (subst (λ (j : ℕ). get_elem? views j ≡ some out.view) e out.there) at in
        true≢false (ap holds_at (sym out.holds) ∙ ap (λ (x : View B E). holds_at x.stage) is ∙ idle) in
        (apart, record { view = out.view; there = set_else views id (holder served) w apart ∙ out.there; holds = out.holds; faults_then = out.faults_then })

    -- the value is at home still, where the changed view has no turn
    pub home_stays : (opened : B) (history : List E) (most : ℕ) (homes : _) (views : List (View B E)) (id : ℕ) (w : View B E) → holds_at w.stage ≡ false
        → IsHome stands maker place faults opened history most homes views → IsHome stands maker place faults opened history most homes (set views id w)
    home_stays opened history most homes views id w idle home =
        record {
          kept = home.kept;
          there = home.there;
          stood = home.stood;
          no_fewer_faults = home.no_fewer_faults;
          no_turn = over (λ j u. holds_at u.stage ≡ false) views id w idle (λ j u _ e. home.no_turn j u e);
        }

    -- the stages of the others, seen from as many seats
    pub stages_stay : (served drawn : ℕ) (holder : ℕ → ℕ) (history : List E) (views : List (View B E)) (id : ℕ) (w : View B E)
        → IsAt stands maker place faults served drawn holder (length views) history id w.seen w.stage
        → ((j : ℕ) (u : View B E) → j ≢ id → get_elem? views j ≡ some u → IsAt stands maker place faults served drawn holder (length views) history j u.seen u.stage)
        → (j : ℕ) (u : View B E) → get_elem? (set views id w) j ≡ some u → IsAt stands maker place faults served drawn holder (length (set views id w)) history j u.seen u.stage
    stages_stay served drawn holder history views id w mine others =
        subst (λ (n : ℕ). (j : ℕ) (u : View B E) → get_elem? (set views id w) j ≡ some u → IsAt stands maker place faults served drawn holder n history j u.seen u.stage) (sym (length-set views id w))
        (over (λ j u. IsAt stands maker place faults served drawn holder (length views) history j u.seen u.stage) views id w mine others)

pub none_is : {A : Type 0} (a : A) (o : Option A) → o ≡ None → some o ≡ some (Some a) → ⊥
none_is a o e d = let x : None ≡ Some a = sym e ∙ some-injective o (Some a) d in absurd (cc)
