-- What is known at the beginning and at the end.
use Rattle.std.proofs.Common.{◌≡◌, ◌≢◌, ℕ, ◌+◌, ◌%◌, ◌<◌, true, false, true≢false, List, [], ◌∷◌, length, get_or, Some, inl, ⊎_elim, refl, sym, ap, ◌∙◌, subst, arith}
use Rattle.std.proofs.Math.Nat.{mod-eq_of_lt}
use mathlib.Core.Option.{none, some, some-injective}
use mathlib.Core.Logic.{dite}
use native.Mathlib.Decide.{ℕ_discrete}
use lib.ListN.{get_elem?}
use Rattle.std.specs.Prelude.{Option}
use Rattle.atomic_table.specs.Table.{State, Final, Seen}
use Rattle.turn_lock.specs.declared.view.View.{View}
use Rattle.turn_lock.specs.declared.view.Dealt.{Dealt}
use Rattle.turn_lock.specs.declared.view.Stage.{Stage}
use Rattle.turn_lock.specs.declared.view.Stage.TheVariants.{Rests, Deals, Waits, Holds, Joins, Spent}
use Rattle.turn_lock.specs.Serial.{IsAt, Sees, Owns, IsHome, IsSerial, holds_at, knows_at, lives_at, passes_of}
use Rattle.known_lists.proofs.Totals.{over_end, total_two}
use Rattle.known_lists.proofs.Prefixes.{prefix_none, prefix_whole}
use Rattle.turn_lock.proofs.Stays.{some_is, same_view, out_stays}
use Rattle.atomic_table.specs.Table.{opening}
use Rattle.turn_lock.specs.Serial.{starting}

module _ {B E : Type 0} (stands : B → List E → B → Type 0) (maker : E → ℕ) (place : B → ℕ) (faults : B → ℕ) (dealt : Dealt B) where
  abbrev Rule : State (Option B) (View B E) → Type 0
  Rule = IsSerial stands maker place faults dealt

  one_view : (P : ℕ → View B E → Type 0) (v : View B E) → P 0 v → (j : ℕ) (u : View B E) → get_elem? (v ∷ []) j ≡ some u → P j u
  one_view P v h j u e = over_end P [] v h (λ j u e. absurd (mathlib.Core.Option.some-ne-none u (sym e))) j u e

  pub opens : (words : List ℕ) (kept : B) → length words ≡ 33 → get_or words 0 0 ≡ 0 → get_or words 16 0 ≡ 0 → get_or words 32 0 ≡ place dealt.opened.value → get_or words 32 0 < 18446744073709551616
      → kept ≡ dealt.opened.value → stands dealt.opened.value [] dealt.opened.value → dealt.passes < 4294967296
      → Rule (opening words (Some kept ∷ []) (starting stands maker place faults dealt))
  opens words kept wide ticket serving count fits is stood few =
      let v : View B E = starting stands maker place faults dealt in
      record {
        history = [];
        served = 0;
        drawn = 0;
        holder = λ n. 0;
        most = faults dealt.opened.value;
        wide = (wide, refl);
        ticket = ticket;
        serving = serving;
        count = (let same : get_or words 32 0 ≡ place dealt.opened.value + 0 = omega arith in sym (ap (λ (n : ℕ). n % 18446744073709551616) (sym same) ∙ mod-eq_of_lt fits));
        in_turn = refl;
        each_ticket = λ n low high. absurd (omega arith);
        each_stage = one_view (λ j u. IsAt stands maker place faults 0 0 (λ n. 0) 1 [] j u.seen u.stage) v (refl, refl, refl);
        each_view = one_view (λ j u. knows_at u.stage ≡ true → Sees stands maker place faults dealt.opened.value [] (faults dealt.opened.value) u) v
            (λ _. record { opened_is = refl; prefix = prefix_none []; no_more_faults = omega arith });
        each_pass = one_view (λ j u. lives_at u.stage ≡ true → Owns stands maker place faults [] j u) v (λ l. absurd (true≢false (sym l)));
        value = inl (record {
          kept = kept;
          there = refl;
          stood = subst (stands dealt.opened.value []) (sym is) stood;
          no_fewer_faults = (let same = ap faults is in omega arith);
          no_turn = one_view (λ j u. holds_at u.stage ≡ false) v refl;
        });
        made = tt;
        all_passes = omega arith;
        few = ((omega arith), few);
        seen_whole = record { seat = 0; view = v; there = refl; knows = refl; whole = refl };
      }

  pub opens_with : (words : List ℕ) (kept : B) (slots : List (Option B)) → slots ≡ Some kept ∷ [] → length words ≡ 33 → get_or words 0 0 ≡ 0 → get_or words 16 0 ≡ 0
      → get_or words 32 0 ≡ place dealt.opened.value → get_or words 32 0 < 18446744073709551616 → kept ≡ dealt.opened.value → stands dealt.opened.value [] dealt.opened.value → dealt.passes < 4294967296
      → Rule (opening words slots (starting stands maker place faults dealt))
  opens_with words kept slots only wide ticket serving count fits is stood few =
      subst (λ (l : List (Option B)). Rule (opening words l (starting stands maker place faults dealt))) (sym only) (opens words kept wide ticket serving count fits is stood few)

  -- the value of a lock whose passes were all joined into this one
  pub record Ends (v : View B E) (slots : List (Option B)) : Type 0 where
    pub kept : B
    pub there : get_elem? slots 0 ≡ some (Some kept)
    pub stood : (opened : B) → v.opened ≡ Some opened → stands opened v.seen kept

  -- no other pass lives
  alone : (s : State (Option B) (View B E)) (r : Rule s) (id : ℕ) (v : View B E) → get_elem? s.views id ≡ some v → v.passes ≡ dealt.passes
      → (j : ℕ) (u : View B E) → get_elem? s.views j ≡ some u → j ≢ id → lives_at u.stage ≡ true → ⊥
  alone s r id v at whole j u there apart lives =
      let two = total_two passes_of s.views id j v u (λ e. apart (sym e)) at there in
      let few = (r.each_pass j u there lives).counts in
      let all = r.all_passes in
      omega arith

  -- who sees the whole history, if it is not this pass, is the seat of the dealing, and has seen nothing
  seen_none : (s : State (Option B) (View B E)) (r : Rule s) (j : ℕ) (seen : List E) (st : Stage E) → knows_at st ≡ true → (lives_at st ≡ true → ⊥)
      → IsAt stands maker place faults r.served r.drawn r.holder (length s.views) r.history j seen st → seen ≡ []
  seen_none s r j seen Rests k not h = absurd (not refl)
  seen_none s r j seen (Deals n) k not h = h.2
  seen_none s r j seen (Waits n) k not h = absurd (not refl)
  seen_none s r j seen (Holds n) k not h = absurd (not refl)
  seen_none s r j seen (Joins n a b c) k not h = absurd (not refl)
  seen_none s r j seen Spent k not h = absurd (true≢false (sym k))

  pub closes : (id : ℕ) (v : View B E) (words : List ℕ) (slots : List (Option B)) → v.stage ≡ Rests → v.passes ≡ dealt.passes → Final (Seen Rule id v) words slots → Ends v slots
  closes id v words slots rests whole final =
      let s = final.0 in
      let r = final.1.0 in
      let at = final.1.1 in
      let knows : knows_at v.stage ≡ true = ap knows_at rests in
      let idle : holds_at v.stage ≡ false = ap holds_at rests in
      let sees = r.each_view id v at knows in
      let home : IsHome stands maker place faults dealt.opened.value r.history r.most s.homes s.views = ⊎_elim
      (λ h. h)
      (λ out. absurd (alone s r id v at whole (r.holder r.served) out.view out.there
      (out_stays stands maker place faults r.served r.holder r.most s.views id v v at idle out).0 (ap lives_at out.holds)))
      r.value in
      let z = r.seen_whole in
      let all : v.seen ≡ r.history = dite (ℕ_discrete z.seat id)
      (λ e. ap (λ (y : View B E). y.seen) (sym (same_view s.views id z.view v (subst (λ (j : ℕ). get_elem? s.views j ≡ some z.view) e z.there) at)) ∙ z.whole)
      (λ ne.
      let none : z.view.seen ≡ [] = seen_none s r z.seat z.view.seen z.view.stage z.knows (alone s r id v at whole z.seat z.view z.there ne) (r.each_stage z.seat z.view z.there) in
      prefix_whole v.seen r.history sees.prefix (let l = ap (λ (t : List E). length t) (sym z.whole ∙ none) in omega arith)) in
      record {
        kept = home.kept;
        there = final.4 0 (Some home.kept) home.there;
        stood = λ o e. subst (λ (x : B × List E). stands x.0 x.1 home.kept) (λ i. (some_is dealt.opened.value o (sym sees.opened_is ∙ e) i, sym all i)) home.stood;
      }
