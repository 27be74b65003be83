-- The holder of the turn gives the value back, and passes the turn on.
use Rattle.std.proofs.Common.{◌≡◌, ◌≢◌, ℕ, ◌+◌, ◌%◌, ◌≤◌, true, false, true≢false, List, [], ◌∷◌, length, get_or, set, Some, inl, ⊎_elim, refl, sym, ap, ◌∙◌, subst, length-set, get_or-set_other, get_or-set_same, arith}
use Rattle.std.proofs.Math.Nat.{mod-add-mod}
use mathlib.Core.Option.{none, some}
use lib.ListN.{get_elem?}
use Rattle.std.specs.Prelude.{Option}
use Rattle.atomic_table.specs.Table.{Me, State, Allows, step, stepped, gives, rest}
use Rattle.atomic_table.proofs.Lists.{set_here, set_else}
use Rattle.turn_lock.specs.declared.view.View.{View}
use Rattle.turn_lock.specs.declared.view.Dealt.{Dealt}
use Rattle.turn_lock.specs.declared.view.Stage.{Stage}
use Rattle.turn_lock.specs.declared.view.Stage.TheVariants.{Rests, Deals, Waits, Holds, Joins, Spent}
use Rattle.turn_lock.specs.Histories.{AllMadeBelow}
use Rattle.turn_lock.specs.Serial.{IsAt, Sees, Owns, IsSerial, HasTicket, holds_at, knows_at, lives_at, tickets_at, tickets_of, passes_of}
use Rattle.turn_lock.specs.Steps.{PassedOn, resting}
use Rattle.known_lists.proofs.Totals.{over, total_set}
use Rattle.turn_lock.proofs.Stays.{slot_is, same_view, seen_stays, stages_stay}

abbrev pair : {B E : Type 0} → View B E → List (ℕ × Option B) → Me (Option B) (View B E)
pair v slots = (v, slots)

module _ {B E : Type 0} (stands : B → List E → B → Type 0) (maker : E → ℕ) (place : B → ℕ) (faults : B → ℕ) (dealt : Dealt B) where
  abbrev Rule : State (Option B) (View B E) → Type 0
  Rule = IsSerial stands maker place faults dealt

  -- the others are where they were, since none of them has the ticket that was served
  others : (served drawn : ℕ) (holder : ℕ → ℕ) (id seats : ℕ) (history : List E) (j : ℕ) (seen : List E) (st : Stage E) → holder served ≡ id → j ≢ id
      → IsAt stands maker place faults served drawn holder seats history j seen st → IsAt stands maker place faults (served + 1) drawn holder seats history j seen st
  others served drawn holder id seats history j seen Rests whose apart h = tt
  others served drawn holder id seats history j seen (Deals k) whose apart h = h
  others served drawn holder id seats history j seen (Waits n) whose apart h =
      let low = h.0 in let ne : n ≢ served = λ e. apart (sym h.2 ∙ ap holder e ∙ whose) in ((omega arith), h.1, h.2)
  others served drawn holder id seats history j seen (Holds n) whose apart h = absurd (apart (sym h.2 ∙ ap holder h.0 ∙ whose))
  others served drawn holder id seats history j seen (Joins k a b c) whose apart h = h
  others served drawn holder id seats history j seen Spent whose apart h = tt

  idle_others : (served drawn : ℕ) (holder : ℕ → ℕ) (id seats : ℕ) (history : List E) (j : ℕ) (seen : List E) (st : Stage E) → holder served ≡ id → j ≢ id
      → IsAt stands maker place faults served drawn holder seats history j seen st → holds_at st ≡ false
  idle_others served drawn holder id seats history j seen Rests whose apart h = refl
  idle_others served drawn holder id seats history j seen (Deals k) whose apart h = refl
  idle_others served drawn holder id seats history j seen (Waits n) whose apart h = refl
  idle_others served drawn holder id seats history j seen (Holds n) whose apart h = absurd (apart (sym h.2 ∙ ap holder h.0 ∙ whose))
  idle_others served drawn holder id seats history j seen (Joins k a b c) whose apart h = refl
  idle_others served drawn holder id seats history j seen Spent whose apart h = refl

  pub passes_on : (slots id : ℕ) (me : Me (Option B) (View B E)) (n : ℕ) (kept : B) → me.0.stage ≡ Holds n → me.1 ≡ (0, Some kept) ∷ []
      → ((o : B) → me.0.opened ≡ Some o → stands o me.0.seen kept) → me.0.faults ≤ faults kept
      → Allows Rule slots id me 16 (λ x. (x + 1) % 18446744073709551616) (PassedOn stands maker faults (step slots 16 1 0 none) me)
  passes_on slots id me n kept holds slot stood fewer s r _ at _ =
      let v : View B E = me.0 in
      let w : View B E = resting (faults kept) v in
      let knows : knows_at v.stage ≡ true = ap knows_at holds in
      let lives : lives_at v.stage ≡ true = ap lives_at holds in
      let turned : holds_at v.stage ≡ true = ap holds_at holds in
      let one_had : tickets_at v.stage ≡ 1 = ap tickets_at holds in
      let sees = r.each_view id v at knows in
      let owns = r.each_pass id v at lives in
      let mine = subst (IsAt stands maker place faults r.served r.drawn r.holder (length s.views) r.history id v.seen) holds (r.each_stage id v at) in
      let whose : r.holder r.served ≡ id = ap r.holder (sym mine.0) ∙ mine.2 in
      let bump : ℕ = (get_or s.words 16 0 + 1) % 18446744073709551616 in
      let sum = total_set tickets_of s.views id v w at in
      let parts = total_set passes_of s.views id v w at in
      let turn = r.in_turn in
      let all = r.all_passes in
      let few = r.few.0 in
      let seats = length-set s.views id w in
      let most_is : v.faults ≡ r.most = ⊎_elim
      (λ home. absurd (true≢false (sym turned ∙ home.no_turn id v at)))
      (λ out. ap (λ (x : View B E). x.faults) (sym (same_view s.views id out.view v (subst (λ (j : ℕ). get_elem? s.views j ≡ some out.view) whose out.there) at)) ∙ out.faults_then)
      r.value in
      let now : List _ = set s.homes 0 (some (Some kept)) in (
        w,
        gives,
        tt,
        subst (λ (c : List (ℕ × Option B)). Rule (stepped s 16 bump id c w gives)) (sym slot) (record {
          history = r.history;
          served = r.served + 1;
          drawn = r.drawn;
          holder = r.holder;
          most = faults kept;
          wide = (length-set s.words 16 bump ∙ r.wide.0, length-set s.homes 0 (some (Some kept)) ∙ r.wide.1);
          ticket = get_or-set_other s.words 16 0 bump 0 (λ k. omega arith) ∙ r.ticket;
          serving = (let long = r.wide.0 in get_or-set_same s.words 16 bump 0 (omega arith))
              ∙ (ap (λ (x : ℕ). (x + 1) % 18446744073709551616) r.serving ∙ mod-add-mod r.served 18446744073709551616 1);
          count = get_or-set_other s.words 16 32 bump 0 (λ k. omega arith) ∙ r.count;
          in_turn = omega arith;
          each_ticket = λ m low high.
              let t = r.each_ticket m (omega arith) high in
              let apart : r.holder m ≢ id = λ e.
              let is : t.0 ≡ v = same_view s.views id t.0 v (subst (λ (j : ℕ). get_elem? s.views j ≡ some t.0) e t.1) at in
              let same : n ≡ m = subst (HasTicket m) holds (subst (λ (x : View B E). HasTicket m x.stage) is t.2) in
              let served = mine.0 in omega arith in
              (t.0, set_else s.views id (r.holder m) w apart ∙ t.1, t.2);
          each_stage = stages_stay stands maker place faults (r.served + 1) r.drawn r.holder r.history s.views id w tt
              (λ j u apart d. others r.served r.drawn r.holder id (length s.views) r.history j u.seen u.stage whose apart (r.each_stage j u d));
          each_view = over (λ j u. knows_at u.stage ≡ true → Sees stands maker place faults dealt.opened.value r.history (faults kept) u) s.views id w
              (λ _. record { opened_is = sees.opened_is; prefix = sees.prefix; no_more_faults = omega arith })
              (λ j u _ d k. let x = r.each_view j u d k in let y = x.no_more_faults in record { opened_is = x.opened_is; prefix = x.prefix; no_more_faults = omega arith });
          each_pass = over (λ j u. lives_at u.stage ≡ true → Owns stands maker place faults r.history j u) s.views id w
              (λ _. record { numbered = owns.numbered; counts = owns.counts; own = owns.own; own_seen = owns.own_seen })
              (λ j u _ d. r.each_pass j u d);
          value = inl (record {
            kept = kept;
            there = (let deep = r.wide.1 in set_here s.homes 0 (some (Some kept)) (omega arith));
            stood = subst (λ (h : List E). stands dealt.opened.value h kept) mine.3 (stood dealt.opened.value sees.opened_is);
            no_fewer_faults = omega arith;
            no_turn = over (λ j u. holds_at u.stage ≡ false) s.views id w refl
                (λ j u apart d. idle_others r.served r.drawn r.holder id (length s.views) r.history j u.seen u.stage whose apart (r.each_stage j u d));
          });
          made = subst (λ (k : ℕ). AllMadeBelow maker k r.history) (sym seats) r.made;
          all_passes = omega arith;
          few = ((omega arith), r.few.1);
          seen_whole = seen_stays stands maker place faults r.history s.views id v w at refl refl r.seen_whole;
        }),
        λ other is. let same : kept ≡ other = slot_is kept other me.1 slot is in λ i. pair (resting (faults (same i)) v) (ap rest slot i),
      )
