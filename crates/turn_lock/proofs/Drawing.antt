-- A pass draws a ticket.
use Rattle.std.proofs.Common.{◌≡◌, ◌≢◌, ℕ, ◌+◌, ◌%◌, Bool, true, false, eqb, eq-eqb, ne_eqb, cond, List, length, get_or, set, inl, inr, ⊎_elim, refl, sym, ap, ◌∙◌, subst, length-set, get_or-set_other, get_or-set_same, arith}
use Rattle.std.proofs.Math.Nat.{mod-add-mod}
use mathlib.Core.Option.{none, some}
use mathlib.Core.Logic.{dite}
use native.Mathlib.Decide.{ℕ_discrete}
use lib.ListN.{get_elem?}
use Rattle.std.specs.Prelude.{Option}
use Rattle.atomic_table.specs.Table.{Me, State, Allows, step, keeps}
use Rattle.atomic_table.proofs.Lists.{set_here}
use Rattle.turn_lock.specs.declared.view.View.{View}
use Rattle.turn_lock.specs.declared.view.Dealt.{Dealt}
use Rattle.turn_lock.specs.declared.view.Stage.{Stage}
use Rattle.turn_lock.specs.declared.view.Stage.TheVariants.{Rests, Deals, Waits, Holds, Joins, Spent}
use Rattle.turn_lock.specs.Histories.{AllMadeBelow}
use Rattle.turn_lock.specs.Serial.{IsAt, Sees, Owns, IsSerial, HasTicket, holds_at, knows_at, lives_at, tickets_at, tickets_of, passes_of}
use Rattle.turn_lock.specs.Steps.{Drawn, waiting}
use Rattle.known_lists.proofs.Totals.{within, over, total_set}
use Rattle.turn_lock.proofs.Stays.{no_ticket, tickets_stay, seen_stays, out_stays, home_stays, stages_stay}

-- the new ticket's holder is the seat that drew it
abbrev redirect : ℕ → ℕ → (ℕ → ℕ) → ℕ → ℕ
redirect drawn id holder n = cond (eqb n drawn) id (holder n)

redirect_here : (drawn id : ℕ) (holder : ℕ → ℕ) (n : ℕ) → n ≡ drawn → redirect drawn id holder n ≡ id
redirect_here drawn id holder n e = ap (λ (b : Bool). cond b id (holder n)) (eq-eqb n drawn e)

redirect_else : (drawn id : ℕ) (holder : ℕ → ℕ) (n : ℕ) → n ≢ drawn → redirect drawn id holder n ≡ holder n
redirect_else drawn id holder n ne = ap (λ (b : Bool). cond b id (holder n)) (ne_eqb n drawn ne)

module _ {B E : Type 0} (stands : B → List E → B → Type 0) (maker : E → ℕ) (place : B → ℕ) (faults : B → ℕ) where
  -- the others are where they were, with one ticket more out
  wider : (served drawn : ℕ) (holder : ℕ → ℕ) (id seats : ℕ) (history : List E) (j : ℕ) (seen : List E) (st : Stage E)
      → IsAt stands maker place faults served drawn holder seats history j seen st → IsAt stands maker place faults served (drawn + 1) (redirect drawn id holder) seats history j seen st
  wider served drawn holder id seats history j seen Rests h = tt
  wider served drawn holder id seats history j seen (Deals k) h = h
  wider served drawn holder id seats history j seen (Waits n) h = let l = h.1 in (h.0, (omega arith), redirect_else drawn id holder n (λ e. omega arith) ∙ h.2)
  wider served drawn holder id seats history j seen (Holds n) h = let l = h.1 in (h.0, (omega arith), redirect_else drawn id holder n (λ e. omega arith) ∙ h.2, h.3)
  wider served drawn holder id seats history j seen (Joins k a b c) h = h
  wider served drawn holder id seats history j seen Spent h = tt

  module _ (dealt : Dealt B) where
    abbrev Rule : State (Option B) (View B E) → Type 0
    Rule = IsSerial stands maker place faults dealt

    pub draws : (slots id : ℕ) (me : Me (Option B) (View B E)) → me.0.stage ≡ Rests → Allows Rule slots id me 0 (λ n. (n + 1) % 18446744073709551616) (Drawn (step slots 0 1 0 none) me)
    draws slots id me rests s r _ at _ =
        let v : View B E = me.0 in
        let w : View B E = waiting r.drawn v in
        let knows : knows_at v.stage ≡ true = ap knows_at rests in
        let lives : lives_at v.stage ≡ true = ap lives_at rests in
        let idle : holds_at v.stage ≡ false = ap holds_at rests in
        let none_had : tickets_at v.stage ≡ 0 = ap tickets_at rests in
        let sees = r.each_view id v at knows in
        let owns = r.each_pass id v at lives in
        let long = r.wide.0 in
        let turn = r.in_turn in
        let sum = total_set tickets_of s.views id v w at in
        let parts = total_set passes_of s.views id v w at in
        let seats = length-set s.views id w in (
          w,
          keeps,
          tt,
          record {
            history = r.history;
            served = r.served;
            drawn = r.drawn + 1;
            holder = redirect r.drawn id r.holder;
            most = r.most;
            wide = (length-set s.words 0 ((get_or s.words 0 0 + 1) % 18446744073709551616) ∙ r.wide.0, r.wide.1);
            ticket =
                get_or-set_same s.words 0 ((get_or s.words 0 0 + 1) % 18446744073709551616) 0 (omega arith)
                ∙ (ap (λ (x : ℕ). (x + 1) % 18446744073709551616) r.ticket ∙ mod-add-mod r.drawn 18446744073709551616 1);
            serving = get_or-set_other s.words 0 16 ((get_or s.words 0 0 + 1) % 18446744073709551616) 0 (λ e. omega arith) ∙ r.serving;
            count = get_or-set_other s.words 0 32 ((get_or s.words 0 0 + 1) % 18446744073709551616) 0 (λ e. omega arith) ∙ r.count;
            in_turn = omega arith;
            each_ticket = λ n low high. dite (ℕ_discrete n r.drawn)
                (λ (e : n ≡ r.drawn). (w, subst (λ (j : ℕ). get_elem? (set s.views id w) j ≡ some w) (sym (redirect_here r.drawn id r.holder n e)) (set_here s.views id w (within s.views id v at)), sym e))
                (λ (ne : n ≢ r.drawn).
                subst (λ (j : ℕ). (u : View B E) × (get_elem? (set s.views id w) j ≡ some u) × HasTicket n u.stage) (sym (redirect_else r.drawn id r.holder n ne))
                (tickets_stay s.views r.holder id v w n at (λ h. absurd (no_ticket n v.stage none_had h)) (r.each_ticket n low (omega arith))));
            each_stage = stages_stay stands maker place faults r.served (r.drawn + 1) (redirect r.drawn id r.holder) r.history s.views id w
                ((omega arith), (omega arith), redirect_here r.drawn id r.holder r.drawn refl)
                (λ j u _ e. wider r.served r.drawn r.holder id (length s.views) r.history j u.seen u.stage (r.each_stage j u e));
            each_view = over (λ j u. knows_at u.stage ≡ true → Sees stands maker place faults dealt.opened.value r.history r.most u) s.views id w
                (λ _. record { opened_is = sees.opened_is; prefix = sees.prefix; no_more_faults = sees.no_more_faults })
                (λ j u _ e. r.each_view j u e);
            each_pass = over (λ j u. lives_at u.stage ≡ true → Owns stands maker place faults r.history j u) s.views id w
                (λ _. record { numbered = owns.numbered; counts = owns.counts; own = owns.own; own_seen = owns.own_seen })
                (λ j u _ e. r.each_pass j u e);
            value = ⊎_elim
                (λ home. inl (home_stays stands maker place faults dealt.opened.value r.history r.most s.homes s.views id w refl home))
                (λ out.
                let kept = out_stays stands maker place faults r.served r.holder r.most s.views id v w at idle out in
                let there = r.each_stage (r.holder r.served) out.view out.there in
                let now = subst (IsAt stands maker place faults r.served r.drawn r.holder (length s.views) r.history (r.holder r.served) out.view.seen) out.holds there in
                let before = now.1 in
                let o = kept.1 in
                inr (record {
                  view = o.view;
                  there = ap (λ (j : ℕ). get_elem? (set s.views id w) j) (redirect_else r.drawn id r.holder r.served (λ e. omega arith)) ∙ o.there;
                  holds = o.holds;
                  faults_then = o.faults_then;
                }))
                r.value;
            made = subst (λ (n : ℕ). AllMadeBelow maker n r.history) (sym seats) r.made;
            all_passes = (let all = r.all_passes in omega arith);
            few = ((let few = r.few.0 in omega arith), r.few.1);
            seen_whole = seen_stays stands maker place faults r.history s.views id v w at refl refl r.seen_whole;
          },
          (r.drawn, r.ticket, refl),
        )
