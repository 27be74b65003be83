-- A pass takes in another, and then knows what both knew.
use Rattle.std.proofs.Common.{◌≡◌, ℕ, true, false, true≢false, List, length, get_or, set, inl, inr, ⊎_elim, refl, sym, ap, ◌∙◌, subst, length-set, arith}
use mathlib.Core.Option.{none, some}
use mathlib.Core.Logic.{dite}
use native.Mathlib.Decide.{ℕ_discrete}
use lib.ListN.{get_elem?}
use Rattle.std.specs.Prelude.{Option}
use Rattle.atomic_table.specs.Table.{Me, State, Allows, Joins as Merges, step, keeps}
use Rattle.atomic_table.proofs.Lists.{set_here, set_else}
use Rattle.turn_lock.specs.declared.view.View.{View}
use Rattle.turn_lock.specs.declared.view.Dealt.{Dealt}
use Rattle.turn_lock.specs.declared.view.Stage.TheVariants.{Rests, Joins}
use Rattle.known_lists.specs.Lists.{longer}
use Rattle.turn_lock.specs.Histories.{AllMadeBelow}
use Rattle.turn_lock.specs.Serial.{IsAt, Sees, Owns, IsSerial, holds_at, knows_at, lives_at, tickets_at, tickets_of, passes_of}
use Rattle.turn_lock.specs.Steps.{Settled, joined, spent}
use Rattle.known_lists.proofs.Totals.{set_back, within, over, total_set, total_one}
use Rattle.known_lists.proofs.Prefixes.{longer_prefix, first_prefix, second_prefix, first_whole, second_whole}
use Rattle.turn_lock.proofs.Made.{between}
use Rattle.turn_lock.proofs.Stays.{same_view, no_ticket, tickets_stay, seen_stays, out_stays, home_stays, stages_stay}

module _ {B E : Type 0} (stands : B → List E → B → Type 0) (maker : E → ℕ) (place : B → ℕ) (faults : B → ℕ) (dealt : Dealt B) where
  abbrev Rule : State (Option B) (View B E) → Type 0
  Rule = IsSerial stands maker place faults dealt

  pub joins : (id : ℕ) (v : View B E) (other : ℕ) (x : View B E) → v.stage ≡ Rests → x.stage ≡ Rests → Merges Rule id v other x (joined v x) spent
  joins id v other x rests rests' s r at apart there =
      let w : View B E = joined v x in
      let changed : List (View B E) = set s.views id w in
      let there' : get_elem? s.views other ≡ some x = sym (set_else s.views id other w apart) ∙ there in
      let knows : knows_at v.stage ≡ true = ap knows_at rests in
      let lives : lives_at v.stage ≡ true = ap lives_at rests in
      let idle : holds_at v.stage ≡ false = ap holds_at rests in
      let none_had : tickets_at v.stage ≡ 0 = ap tickets_at rests in
      let knows_x : knows_at x.stage ≡ true = ap knows_at rests' in
      let lives_x : lives_at x.stage ≡ true = ap lives_at rests' in
      let idle_x : holds_at x.stage ≡ false = ap holds_at rests' in
      let none_had_x : tickets_at x.stage ≡ 0 = ap tickets_at rests' in
      let sees = r.each_view id v at knows in
      let owns = r.each_pass id v at lives in
      let sees_x = r.each_view other x there' knows_x in
      let owns_x = r.each_pass other x there' lives_x in
      let seen : List E = longer v.seen x.seen in
      let seen_in = longer_prefix v.seen x.seen r.history sees.prefix sees_x.prefix in
      let first = first_prefix v.seen x.seen r.history sees.prefix sees_x.prefix in
      let second = second_prefix v.seen x.seen r.history sees.prefix sees_x.prefix in
      let sum = total_set tickets_of s.views id v w at in
      let parts = total_set passes_of s.views id v w at in
      let sum' = total_set tickets_of changed other x spent there in
      let parts' = total_set passes_of changed other x spent there in
      let turn = r.in_turn in
      let all = r.all_passes in
      let few = r.few.0 in
      let counts = owns.counts in
      let seats : length (set changed other spent) ≡ length s.views = length-set changed other spent ∙ length-set s.views id w in
      let faults_v = sees.no_more_faults in
      let faults_x = sees_x.no_more_faults in
      let inside = within s.views id v at in
      let here : get_elem? (set changed other spent) id ≡ some w = set_else changed other id spent (λ e. apart (sym e)) ∙ set_here s.views id w inside in
      record {
        history = r.history;
        served = r.served;
        drawn = r.drawn;
        holder = r.holder;
        most = r.most;
        wide = r.wide;
        ticket = r.ticket;
        serving = r.serving;
        count = r.count;
        in_turn = omega arith;
        each_ticket = λ m low high.
            tickets_stay changed r.holder other x spent m there (λ h. absurd (no_ticket m x.stage none_had_x h))
            (tickets_stay s.views r.holder id v w m at (λ h. absurd (no_ticket m v.stage none_had h)) (r.each_ticket m low high));
        each_stage = stages_stay stands maker place faults r.served r.drawn r.holder r.history changed other spent tt
            (λ j u _ d. stages_stay stands maker place faults r.served r.drawn r.holder r.history s.views id w
            (second, first, between maker x.number x.seen seen r.history x.mine second seen_in owns_x.own_seen owns_x.own)
            (λ j u _ d. r.each_stage j u d) j u d);
        each_view = over (λ j u. knows_at u.stage ≡ true → Sees stands maker place faults dealt.opened.value r.history r.most u) changed other spent (λ k. absurd (true≢false (sym k)))
            (λ j u _ d. over (λ j u. knows_at u.stage ≡ true → Sees stands maker place faults dealt.opened.value r.history r.most u) s.views id w
            (λ _. record { opened_is = sees.opened_is; prefix = seen_in; no_more_faults = omega arith })
            (λ j u _ d. r.each_view j u d) j u d);
        each_pass = over (λ j u. lives_at u.stage ≡ true → Owns stands maker place faults r.history j u) changed other spent (λ k. absurd (true≢false (sym k)))
            (λ j u _ d. over (λ j u. lives_at u.stage ≡ true → Owns stands maker place faults r.history j u) s.views id w
            (λ _. record {
              numbered = owns.numbered;
              counts = omega arith;
              own = owns.own;
              own_seen = between maker v.number v.seen seen r.history v.mine first seen_in owns.own_seen owns.own;
            })
            (λ j u _ d. r.each_pass j u d) j u d);
        value = ⊎_elim
            (λ home. inl (home_stays stands maker place faults dealt.opened.value r.history r.most s.homes changed other spent refl
            (home_stays stands maker place faults dealt.opened.value r.history r.most s.homes s.views id w refl home)))
            (λ out. inr (out_stays stands maker place faults r.served r.holder r.most changed other x spent there idle_x
            (out_stays stands maker place faults r.served r.holder r.most s.views id v w at idle out).1).1)
            r.value;
        made = subst (λ (n : ℕ). AllMadeBelow maker n r.history) (sym seats) r.made;
        all_passes = omega arith;
        few = ((omega arith), r.few.1);
        seen_whole =
            let z = r.seen_whole in
            dite (ℕ_discrete z.seat id)
            (λ e.
            let is : z.view ≡ v = same_view s.views id z.view v (subst (λ (j : ℕ). get_elem? s.views j ≡ some z.view) e z.there) at in
            record { seat = id; view = w; there = here; knows = refl; whole = first_whole v.seen x.seen r.history (ap (λ (y : View B E). y.seen) (sym is) ∙ z.whole) sees_x.prefix })
            (λ ne. dite (ℕ_discrete z.seat other)
            (λ e.
            let is : z.view ≡ x = same_view s.views other z.view x (subst (λ (j : ℕ). get_elem? s.views j ≡ some z.view) e z.there) there' in
            record { seat = id; view = w; there = here; knows = refl; whole = second_whole v.seen x.seen r.history sees.prefix (ap (λ (y : View B E). y.seen) (sym is) ∙ z.whole) })
            (λ ne'. record { seat = z.seat; view = z.view; there = set_else changed other z.seat spent ne' ∙ (set_else s.views id z.seat w ne ∙ z.there); knows = z.knows; whole = z.whole }));
      }

  pub settles : (slots id : ℕ) (me : Me (Option B) (View B E)) (k : ℕ) (theirs own mine : List E) → me.0.stage ≡ Joins k theirs own mine
      → Allows Rule slots id me 16 (λ n. n) (Settled stands maker faults (step slots 16 0 0 none) me)
  settles slots id me k theirs own mine joins s r _ at _ =
      let v : View B E = me.0 in
      let w : View B E = record v { stage = Rests } in
      let knows : knows_at v.stage ≡ true = ap knows_at joins in
      let lives : lives_at v.stage ≡ true = ap lives_at joins in
      let idle : holds_at v.stage ≡ false = ap holds_at joins in
      let none_had : tickets_at v.stage ≡ 0 = ap tickets_at joins in
      let sees = r.each_view id v at knows in
      let owns = r.each_pass id v at lives in
      let fact = r.each_stage id v at in
      let sum = total_set tickets_of s.views id v w at in
      let parts = total_set passes_of s.views id v w at in
      let part = total_one passes_of s.views id v at in
      let turn = r.in_turn in
      let all = r.all_passes in
      let few = r.few.0 in
      let few' = r.few.1 in
      let seats = length-set s.views id w in (
        w,
        keeps,
        tt,
        record {
          history = r.history;
          served = r.served;
          drawn = r.drawn;
          holder = r.holder;
          most = r.most;
          wide = (length-set s.words 16 (get_or s.words 16 0) ∙ r.wide.0, r.wide.1);
          ticket = ap (λ (l : List ℕ). get_or l 0 0) (set_back s.words 16) ∙ r.ticket;
          serving = ap (λ (l : List ℕ). get_or l 16 0) (set_back s.words 16) ∙ r.serving;
          count = ap (λ (l : List ℕ). get_or l 32 0) (set_back s.words 16) ∙ r.count;
          in_turn = omega arith;
          each_ticket = λ m low high. tickets_stay s.views r.holder id v w m at (λ h. absurd (no_ticket m v.stage none_had h)) (r.each_ticket m low high);
          each_stage = stages_stay stands maker place faults r.served r.drawn r.holder r.history s.views id w tt (λ j u _ e. r.each_stage j u e);
          each_view = over (λ j u. knows_at u.stage ≡ true → Sees stands maker place faults dealt.opened.value r.history r.most u) s.views id w
              (λ _. record { opened_is = sees.opened_is; prefix = sees.prefix; no_more_faults = sees.no_more_faults })
              (λ j u _ e. r.each_view j u e);
          each_pass = over (λ j u. lives_at u.stage ≡ true → Owns stands maker place faults r.history j u) s.views id w
              (λ _. record { numbered = owns.numbered; counts = owns.counts; own = owns.own; own_seen = owns.own_seen })
              (λ j u _ e. r.each_pass j u e);
          value = ⊎_elim
              (λ home. inl (home_stays stands maker place faults dealt.opened.value r.history r.most s.homes s.views id w refl home))
              (λ out. inr (out_stays stands maker place faults r.served r.holder r.most s.views id v w at idle out).1)
              r.value;
          made = subst (λ (n : ℕ). AllMadeBelow maker n r.history) (sym seats) r.made;
          all_passes = omega arith;
          few = ((omega arith), r.few.1);
          seen_whole = seen_stays stands maker place faults r.history s.views id v w at refl refl r.seen_whole;
        },
        λ k' theirs' own' mine' is.
            let told = subst (IsAt stands maker place faults r.served r.drawn r.holder (length s.views) r.history id v.seen) is fact in
            record { rests = refl; theirs_seen = told.0; mine_seen = told.1; their_own = told.2; my_own = owns.own_seen; few = omega arith },
      )
