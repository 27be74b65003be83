-- A pass is dealt from the first seat.
use Rattle.std.proofs.Common.{◌≡◌, ◌≢◌, ℕ, ◌+◌, ◌<◌, ◌≤◌, true, false, true≢false, List, [], ◌∷◌, ◌++◌, length, set, inl, inr, ⊎_elim, refl, sym, ap, ◌∙◌, subst, length-set, length-append, arith}
use mathlib.Core.Option.{some}
use lib.ListN.{get_elem?}
use Rattle.std.specs.Prelude.{Option}
use Rattle.atomic_table.specs.Table.{State, Splits}
use Rattle.atomic_table.proofs.Lists.{at_longer}
use Rattle.turn_lock.specs.declared.view.View.{View}
use Rattle.turn_lock.specs.declared.view.Dealt.{Dealt}
use Rattle.turn_lock.specs.declared.view.Stage.{Stage}
use Rattle.turn_lock.specs.declared.view.Stage.TheVariants.{Rests, Deals, Waits, Holds, Joins, Spent}
use Rattle.turn_lock.specs.Histories.{made_by}
use Rattle.turn_lock.specs.Serial.{IsAt, Sees, Owns, IsSerial, holds_at, knows_at, lives_at, tickets_at, tickets_of, passes_of}
use Rattle.turn_lock.specs.Steps.{dealing, newcomer, dealt_at, dealt_on}
use Rattle.known_lists.proofs.Totals.{within, over, over_end, total_set, total_snoc}
use Rattle.turn_lock.proofs.Made.{made_not_yet, made_more}
use Rattle.turn_lock.proofs.Stays.{no_ticket, tickets_stay, seen_stays, out_stays, home_stays}

module _ {B E : Type 0} (stands : B → List E → B → Type 0) (maker : E → ℕ) (place : B → ℕ) (faults : B → ℕ) (dealt : Dealt B) where
  abbrev Rule : State (Option B) (View B E) → Type 0
  Rule = IsSerial stands maker place faults dealt

  -- the others are where they were, since none of them deals
  others : (served drawn : ℕ) (holder : ℕ → ℕ) (id seats more : ℕ) (history : List E) (j : ℕ) (seen : List E) (st : Stage E) → id ≡ 0 → j ≢ id
      → IsAt stands maker place faults served drawn holder seats history j seen st → IsAt stands maker place faults served drawn holder more history j seen st
  others served drawn holder id seats more history j seen Rests first apart h = tt
  others served drawn holder id seats more history j seen (Deals k) first apart h = absurd (apart (h.0 ∙ sym first))
  others served drawn holder id seats more history j seen (Waits n) first apart h = h
  others served drawn holder id seats more history j seen (Holds n) first apart h = h
  others served drawn holder id seats more history j seen (Joins k a b c) first apart h = h
  others served drawn holder id seats more history j seen Spent first apart h = tt

  pub deals : (id k : ℕ) (v : View B E) → v.stage ≡ Deals k → k + 2 ≤ 4294967296 → 0 < v.passes → Splits Rule id v (dealing v) (newcomer v)
  deals id k v deal room left s r at =
      let w : View B E = dealing v in
      let x : View B E = newcomer v in
      let stage : w.stage ≡ Deals (k + 1) = ap dealt_on deal in
      let number : x.number ≡ k = ap dealt_at deal in
      let knows : knows_at v.stage ≡ true = ap knows_at deal in
      let knows' : knows_at w.stage ≡ true = ap knows_at stage in
      let dead : lives_at w.stage ≡ false = ap lives_at stage in
      let idle : holds_at v.stage ≡ false = ap holds_at deal in
      let idle' : holds_at w.stage ≡ false = ap holds_at stage in
      let none_had : tickets_at v.stage ≡ 0 = ap tickets_at deal in
      let none_has : tickets_at w.stage ≡ 0 = ap tickets_at stage in
      let sees = r.each_view id v at knows in
      let mine = subst (IsAt stands maker place faults r.served r.drawn r.holder (length s.views) r.history id v.seen) deal (r.each_stage id v at) in
      let first = mine.0 in
      let count = mine.1 in
      let nothing : v.seen ≡ [] = mine.2 in
      let changed : List (View B E) = set s.views id w in
      let seats : length changed ≡ length s.views = length-set s.views id w in
      let more : length (changed ++ x ∷ []) ≡ length s.views + 1 = omega (arith, length-append changed (x ∷ [])) in
      let sum = total_set tickets_of s.views id v w at in
      let parts = total_set passes_of s.views id v w at in
      let sum' = total_snoc tickets_of changed x in
      let parts' = total_snoc passes_of changed x in
      let turn = r.in_turn in
      let all = r.all_passes in
      let few = r.few.0 in
      let inside = within s.views id v at in
      let whole = seen_stays stands maker place faults r.history s.views id v w at refl knows' r.seen_whole in
      record {
        history = r.history;
        served = r.served;
        drawn = r.drawn;
        holder = r.holder;
        most = r.most;
        wide = r.wide;
        ticket = r.ticket;
        serving = r.serving;
        count = r.count;
        in_turn = omega arith;
        each_ticket = λ m low high.
            let t = tickets_stay s.views r.holder id v w m at (λ h. absurd (no_ticket m v.stage none_had h)) (r.each_ticket m low high) in
            (t.0, at_longer changed (x ∷ []) (r.holder m) t.0 t.1, t.2);
        each_stage = subst (λ (n : ℕ). (j : ℕ) (u : View B E) → get_elem? (changed ++ x ∷ []) j ≡ some u → IsAt stands maker place faults r.served r.drawn r.holder n r.history j u.seen u.stage) (sym more)
            (over_end (λ j u. IsAt stands maker place faults r.served r.drawn r.holder (length s.views + 1) r.history j u.seen u.stage) changed x tt
            (over (λ j u. IsAt stands maker place faults r.served r.drawn r.holder (length s.views + 1) r.history j u.seen u.stage) s.views id w
            (subst (IsAt stands maker place faults r.served r.drawn r.holder (length s.views + 1) r.history id w.seen) (sym stage) (first, (omega arith), nothing))
            (λ j u apart d. others r.served r.drawn r.holder id (length s.views) (length s.views + 1) r.history j u.seen u.stage first apart (r.each_stage j u d))));
        each_view = over_end (λ j u. knows_at u.stage ≡ true → Sees stands maker place faults dealt.opened.value r.history r.most u) changed x
            (λ _. record { opened_is = sees.opened_is; prefix = sees.prefix; no_more_faults = sees.no_more_faults })
            (over (λ j u. knows_at u.stage ≡ true → Sees stands maker place faults dealt.opened.value r.history r.most u) s.views id w
            (λ _. record { opened_is = sees.opened_is; prefix = sees.prefix; no_more_faults = sees.no_more_faults })
            (λ j u _ d. r.each_view j u d));
        each_pass = over_end (λ j u. lives_at u.stage ≡ true → Owns stands maker place faults r.history j u) changed x
            (λ _. record {
              numbered = omega arith;
              counts = omega arith;
              own = made_not_yet maker (length s.views) x.number r.history r.made (omega arith);
              own_seen = ap (made_by maker x.number) nothing;
            })
            (over (λ j u. lives_at u.stage ≡ true → Owns stands maker place faults r.history j u) s.views id w (λ l. absurd (true≢false (sym l ∙ dead))) (λ j u _ d. r.each_pass j u d));
        value = ⊎_elim
            (λ home.
            let h = home_stays stands maker place faults dealt.opened.value r.history r.most s.homes s.views id w idle' home in
            inl (record {
              kept = h.kept;
              there = h.there;
              stood = h.stood;
              no_fewer_faults = h.no_fewer_faults;
              no_turn = over_end (λ j u. holds_at u.stage ≡ false) changed x refl h.no_turn;
            }))
            (λ out.
            let o = (out_stays stands maker place faults r.served r.holder r.most s.views id v w at idle out).1 in
            inr (record { view = o.view; there = at_longer changed (x ∷ []) (r.holder r.served) o.view o.there; holds = o.holds; faults_then = o.faults_then }))
            r.value;
        made = made_more maker (length s.views) (length (changed ++ x ∷ [])) r.history r.made (omega arith);
        all_passes = omega arith;
        few = ((omega arith), r.few.1);
        seen_whole = record { seat = whole.seat; view = whole.view; there = at_longer changed (x ∷ []) whole.seat whole.view whole.there; knows = whole.knows; whole = whole.whole };
      }
