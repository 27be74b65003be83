-- The holder of the turn counts the entry.
use Rattle.std.proofs.Common.{◌≡◌, ◌≢◌, ℕ, ◌+◌, ◌%◌, true, true≢false, List, [], ◌∷◌, ◌++◌, length, get_or, set, Some, inr, ⊎_elim, sym, ap, ◌∙◌, subst, length-set, length-append, get_or-set_other, get_or-set_same, arith}
use Rattle.std.proofs.Math.Nat.{mod-add-mod}
use mathlib.Core.Option.{none, some}
use mathlib.Core.List.{IsPrefix}
use lib.ListN.{get_elem?}
use Rattle.std.specs.Prelude.{Option}
use Rattle.atomic_table.specs.Table.{Me, State, Allows, step, keeps}
use Rattle.atomic_table.proofs.Lists.{set_here}
use Rattle.turn_lock.specs.declared.view.View.{View}
use Rattle.turn_lock.specs.declared.view.Dealt.{Dealt}
use Rattle.turn_lock.specs.declared.view.Stage.{Stage}
use Rattle.turn_lock.specs.declared.view.Stage.TheVariants.{Rests, Deals, Waits, Holds, Joins, Spent}
use Rattle.turn_lock.specs.Histories.{AllMadeBelow}
use Rattle.turn_lock.specs.Serial.{IsAt, Sees, Owns, IsSerial, holds_at, knows_at, lives_at, tickets_of, passes_of}
use Rattle.turn_lock.specs.Steps.{Counted, grown}
use Rattle.known_lists.proofs.Totals.{within, over, total_set}
use Rattle.known_lists.proofs.Prefixes.{prefix_all, prefix_snoc}
use Rattle.turn_lock.proofs.Made.{made_here, made_elsewhere, made_snoc}
use Rattle.turn_lock.proofs.Stays.{some_is, same_view, tickets_stay, stages_stay}

abbrev pair : {B E : Type 0} → View B E → List (ℕ × Option B) → Me (Option B) (View B E)
pair v slots = (v, slots)

module _ {B E : Type 0} (stands : B → List E → B → Type 0) (maker : E → ℕ) (place : B → ℕ) (faults : B → ℕ) (dealt : Dealt B) where
  abbrev Rule : State (Option B) (View B E) → Type 0
  Rule = IsSerial stands maker place faults dealt

  -- the others are where they were, since none of them has the turn
  others : (served drawn : ℕ) (holder : ℕ → ℕ) (id seats : ℕ) (history longer : List E) (j : ℕ) (seen : List E) (st : Stage E) → holder served ≡ id → j ≢ id
      → IsAt stands maker place faults served drawn holder seats history j seen st → IsAt stands maker place faults served drawn holder seats longer j seen st
  others served drawn holder id seats history more j seen Rests whose apart h = tt
  others served drawn holder id seats history more j seen (Deals k) whose apart h = h
  others served drawn holder id seats history more j seen (Waits n) whose apart h = h
  others served drawn holder id seats history more j seen (Holds n) whose apart h = absurd (apart (sym h.2 ∙ ap holder h.0 ∙ whose))
  others served drawn holder id seats history more j seen (Joins k a b c) whose apart h = h
  others served drawn holder id seats history more j seen Spent whose apart h = tt

  pub counts : (slots id : ℕ) (me : Me (Option B) (View B E)) (n : ℕ) (named : Option E) (e : E) → me.0.stage ≡ Holds n → named ≡ Some e → maker e ≡ me.0.number
      → Allows Rule slots id me 32 (λ x. (x + 1) % 18446744073709551616) (Counted named (step slots 32 1 0 none) me)
  counts slots id me n named e holds names by s r _ at _ =
      let v : View B E = me.0 in
      let w : View B E = grown e v in
      let knows : knows_at v.stage ≡ true = ap knows_at holds in
      let lives : lives_at v.stage ≡ true = ap lives_at holds in
      let turned : holds_at v.stage ≡ true = ap holds_at holds in
      let sees = r.each_view id v at knows in
      let owns = r.each_pass id v at lives in
      let mine = subst (IsAt stands maker place faults r.served r.drawn r.holder (length s.views) r.history id v.seen) holds (r.each_stage id v at) in
      let whose : r.holder r.served ≡ id = ap r.holder (sym mine.0) ∙ mine.2 in
      let more : List E = r.history ++ e ∷ [] in
      let whole : v.seen ++ e ∷ [] ≡ more = ap (λ (l : List E). l ++ e ∷ []) mine.3 in
      let bump : ℕ = (get_or s.words 32 0 + 1) % 18446744073709551616 in
      let sum = total_set tickets_of s.views id v w at in
      let parts = total_set passes_of s.views id v w at in
      let turn = r.in_turn in
      let all = r.all_passes in
      let few = r.few.0 in
      let seats = length-set s.views id w in
      let inside = within s.views id v at in
      let seat = owns.numbered in (
        w,
        keeps,
        tt,
        record {
          history = more;
          served = r.served;
          drawn = r.drawn;
          holder = r.holder;
          most = r.most;
          wide = (length-set s.words 32 bump ∙ r.wide.0, r.wide.1);
          ticket = get_or-set_other s.words 32 0 bump 0 (λ k. omega arith) ∙ r.ticket;
          serving = get_or-set_other s.words 32 16 bump 0 (λ k. omega arith) ∙ r.serving;
          count = (let long = r.wide.0 in get_or-set_same s.words 32 bump 0 (omega arith))
              ∙ (ap (λ (x : ℕ). (x + 1) % 18446744073709551616) r.count ∙ mod-add-mod (place dealt.opened.value + length r.history) 18446744073709551616 1
              ∙ ap (λ (x : ℕ). x % 18446744073709551616) (omega (arith, length-append r.history (e ∷ []))));
          in_turn = omega arith;
          each_ticket = λ m low high. tickets_stay s.views r.holder id v w m at (λ h. h) (r.each_ticket m low high);
          each_stage = stages_stay stands maker place faults r.served r.drawn r.holder more s.views id w
              (subst (IsAt stands maker place faults r.served r.drawn r.holder (length s.views) more id (v.seen ++ e ∷ [])) (sym holds) (mine.0, mine.1, mine.2, whole))
              (λ j u apart d. others r.served r.drawn r.holder id (length s.views) r.history more j u.seen u.stage whose apart (r.each_stage j u d));
          each_view = over (λ j u. knows_at u.stage ≡ true → Sees stands maker place faults dealt.opened.value more r.most u) s.views id w
              (λ _. record { opened_is = sees.opened_is; prefix = subst (λ (l : List E). IsPrefix l more) (sym whole) (prefix_all more); no_more_faults = sees.no_more_faults })
              (λ j u _ d k. let x = r.each_view j u d k in record { opened_is = x.opened_is; prefix = prefix_snoc u.seen r.history e x.prefix; no_more_faults = x.no_more_faults });
          each_pass = over (λ j u. lives_at u.stage ≡ true → Owns stands maker place faults more j u) s.views id w
              (λ _. record {
                numbered = owns.numbered;
                counts = owns.counts;
                own = made_here maker v.number r.history e by ∙ ap (λ (l : List E). l ++ e ∷ []) owns.own;
                own_seen = made_here maker v.number v.seen e by ∙ ap (λ (l : List E). l ++ e ∷ []) owns.own_seen;
              })
              (λ j u apart d k. let x = r.each_pass j u d k in let number = x.numbered in record {
                numbered = x.numbered;
                counts = x.counts;
                own = made_elsewhere maker u.number r.history e (λ same. apart (omega arith)) ∙ x.own;
                own_seen = x.own_seen;
              });
          value = ⊎_elim
              (λ home. absurd (true≢false (sym turned ∙ home.no_turn id v at)))
              (λ out.
              let is : out.view ≡ v = same_view s.views id out.view v (subst (λ (j : ℕ). get_elem? s.views j ≡ some out.view) whose out.there) at in
              inr (record {
                view = w;
                there = subst (λ (j : ℕ). get_elem? (set s.views id w) j ≡ some w) (sym whose) (set_here s.views id w inside);
                holds = holds ∙ ap Holds mine.0;
                faults_then = ap (λ (x : View B E). x.faults) (sym is) ∙ out.faults_then;
              }))
              r.value;
          made = made_snoc maker (length (set s.views id w)) r.history e (subst (λ (k : ℕ). AllMadeBelow maker k r.history) (sym seats) r.made) (omega arith);
          all_passes = omega arith;
          few = ((omega arith), r.few.1);
          seen_whole = record { seat = id; view = w; there = set_here s.views id w inside; knows = knows; whole = whole };
        },
        λ other names'. ap (λ (y : E). pair (grown y v) me.1) (some_is e other (sym names ∙ names')),
      )
