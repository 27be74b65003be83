-- A pass looks whether its ticket is served, and takes the value where it is.
use Rattle.std.proofs.Common.{◌≡◌, ℕ, ◌%◌, ◌<◌, ◌≤◌, true, false, List, length, get_or, set, Some, inr, ⊎_elim, refl, sym, ap, ◌∙◌, subst, length-set, arith}
use mathlib.Core.Option.{none, some}
use mathlib.Core.Logic.{dite}
use native.Mathlib.Decide.{ℕ_discrete}
use lib.ListN.{get_elem?}
use Rattle.std.specs.Prelude.{Option}
use Rattle.atomic_table.specs.Table.{Me, State, Allows, Splits, Joins as Merges, Final, Seen, step, stepped, keeps, takes, gives}
use Rattle.atomic_table.proofs.Lists.{set_here, set_again, one_turn}
use Rattle.turn_lock.specs.declared.view.View.{View}
use Rattle.turn_lock.specs.declared.view.Dealt.{Dealt}
use Rattle.turn_lock.specs.declared.view.Stage.TheVariants.{Waits, Holds}
use Rattle.turn_lock.specs.Histories.{AllMadeBelow}
use Rattle.turn_lock.specs.Serial.{IsAt, Sees, Owns, IsHome, IsSerial, HasTicket, holds_at, knows_at, lives_at, tickets_at, tickets_of, passes_of}
use Rattle.turn_lock.specs.Steps.{Turn, Looked, holding}
use Rattle.known_lists.proofs.Totals.{set_back, within, over, total_set, total_few}
use Rattle.known_lists.proofs.Prefixes.{prefix_all}
use Rattle.turn_lock.proofs.Stays.{some_is, waits_is, one_ticket, tickets_stay, out_stays, stages_stay}

module _ {B E : Type 0} (stands : B → List E → B → Type 0) (maker : E → ℕ) (place : B → ℕ) (faults : B → ℕ) (dealt : Dealt B) where
  abbrev Rule : State (Option B) (View B E) → Type 0
  Rule = IsSerial stands maker place faults dealt

  -- a waiting ticket is the served one where their words are equal
  is_served : (s : State (Option B) (View B E)) (r : Rule s) (n : ℕ) → r.served ≤ n → n < r.drawn → get_or s.words 16 0 ≡ n % 18446744073709551616 → n ≡ r.served
  is_served s r n low high found =
      let few = r.few.0 in
      let turn = r.in_turn in
      let most = total_few tickets_of s.views (λ v. one_ticket v.stage) in
      sym (one_turn r.served n 18446744073709551616 low (omega arith) (sym r.serving ∙ found))

  -- the pass at the served ticket begins its turn
  begins : (slots id : ℕ) (me : Me (Option B) (View B E)) (n : ℕ) → me.0.stage ≡ Waits n
      → (s : State (Option B) (View B E)) (r : Rule s) → get_elem? s.views id ≡ some me.0 → get_or s.words 16 0 ≡ n % 18446744073709551616
      → (w : View B E) × (a : _) × Rattle.atomic_table.specs.Table.Valid s.homes me.1 a × Rule (stepped s 16 (get_or s.words 16 0) id me.1 w a)
      × Turn stands maker faults n me (w, Rattle.atomic_table.specs.Table.carried_after me.1 a)
  begins slots id me n waits s r at found =
      let v : View B E = me.0 in
      let knows : knows_at v.stage ≡ true = ap knows_at waits in
      let lives : lives_at v.stage ≡ true = ap lives_at waits in
      let idle : holds_at v.stage ≡ false = ap holds_at waits in
      let one_had : tickets_at v.stage ≡ 1 = ap tickets_at waits in
      let sees = r.each_view id v at knows in
      let owns = r.each_pass id v at lives in
      let mine = subst (IsAt stands maker place faults r.served r.drawn r.holder (length s.views) r.history id v.seen) waits (r.each_stage id v at) in
      let is : n ≡ r.served = is_served s r n mine.0 mine.1 found in
      let whose : r.holder r.served ≡ id = ap r.holder (sym is) ∙ mine.2 in
      let home : IsHome stands maker place faults dealt.opened.value r.history r.most s.homes s.views = ⊎_elim
      (λ h. h)
      (λ out. absurd ((out_stays stands maker place faults r.served r.holder r.most s.views id v v at idle out).0 whose))
      r.value in
      let kept : B = home.kept in
      let w : View B E = holding n r.history (faults kept) v in
      let fewer = home.no_fewer_faults in
      let turn = r.in_turn in
      let sum = total_set tickets_of s.views id v w at in
      let parts = total_set passes_of s.views id v w at in
      let all = r.all_passes in
      let seats = length-set s.views id w in
      let few = r.few.0 in (
        w,
        takes 0 (Some kept),
        home.there,
        record {
          history = r.history;
          served = r.served;
          drawn = r.drawn;
          holder = r.holder;
          most = faults kept;
          wide = (length-set s.words 16 (get_or s.words 16 0) ∙ r.wide.0, length-set s.homes 0 none ∙ r.wide.1);
          ticket = ap (λ (l : List ℕ). get_or l 0 0) (set_back s.words 16) ∙ r.ticket;
          serving = ap (λ (l : List ℕ). get_or l 16 0) (set_back s.words 16) ∙ r.serving;
          count = ap (λ (l : List ℕ). get_or l 32 0) (set_back s.words 16) ∙ r.count;
          in_turn = omega arith;
          each_ticket = λ m low high. tickets_stay s.views r.holder id v w m at (λ h. subst (HasTicket m) waits h) (r.each_ticket m low high);
          each_stage = stages_stay stands maker place faults r.served r.drawn r.holder r.history s.views id w (is, mine.1, mine.2, refl) (λ j u _ e. r.each_stage j u e);
          each_view = over (λ j u. knows_at u.stage ≡ true → Sees stands maker place faults dealt.opened.value r.history (faults kept) u) s.views id w
              (λ _. record { opened_is = sees.opened_is; prefix = prefix_all r.history; no_more_faults = omega arith })
              (λ j u _ e k. let x = r.each_view j u e k in let y = x.no_more_faults in record { opened_is = x.opened_is; prefix = x.prefix; no_more_faults = omega arith });
          each_pass = over (λ j u. lives_at u.stage ≡ true → Owns stands maker place faults r.history j u) s.views id w
              (λ _. record { numbered = owns.numbered; counts = owns.counts; own = owns.own; own_seen = owns.own })
              (λ j u _ e. r.each_pass j u e);
          value = inr (record {
            view = w;
            there = subst (λ (j : ℕ). get_elem? (set s.views id w) j ≡ some w) (sym whose) (set_here s.views id w (within s.views id v at));
            holds = ap Holds is;
            faults_then = refl;
          });
          made = subst (λ (k : ℕ). AllMadeBelow maker k r.history) (sym seats) r.made;
          all_passes = omega arith;
          few = ((omega arith), r.few.1);
          seen_whole = record { seat = id; view = w; there = set_here s.views id w (within s.views id v at); knows = refl; whole = refl };
        },
        record {
          kept = kept;
          history = r.history;
          slot = refl;
          view = refl;
          stood = λ o e. subst (λ (x : B). stands x r.history kept) (some_is _ _ (sym sees.opened_is ∙ e)) home.stood;
          prefix = sees.prefix;
          own = owns.own;
          no_fewer_faults = (let x = sees.no_more_faults in omega arith);
        },
      )

  -- nothing happens
  idles : (id : ℕ) (me : Me (Option B) (View B E)) (s : State (Option B) (View B E)) → Rule s → get_elem? s.views id ≡ some me.0
      → Rule (stepped s 16 (get_or s.words 16 0) id me.1 me.0 keeps)
  idles id me s r at = subst Rule (λ i. record { words = sym (set_back s.words 16) i; homes = s.homes; views = sym (set_again s.views id me.0 at) i }) r

  pub looks : (slots id : ℕ) (me : Me (Option B) (View B E)) (n : ℕ) → me.0.stage ≡ Waits n
      → Allows Rule slots id me 16 (λ x. x) (Looked stands maker faults (step slots 16 0 0 none) me)
  looks slots id me n waits s r _ at _ = dite (ℕ_discrete (get_or s.words 16 0) (n % 18446744073709551616))
      (λ found. let t = begins slots id me n waits s r at found in (
        t.0,
        t.1,
        t.2,
        t.3,
        λ m e. let same : m ≡ n = waits_is me.0.stage m n e waits in (
          (λ _. subst (λ (k : ℕ). Turn stands maker faults k me (t.0, Rattle.atomic_table.specs.Table.carried_after me.1 t.1)) (sym same) t.4),
          (λ apart. absurd (apart (found ∙ ap (λ (k : ℕ). k % 18446744073709551616) (sym same)))),
        ),
      ))
      (λ apart. (
        me.0,
        keeps,
        tt,
        idles id me s r at,
        λ m e. let same : m ≡ n = waits_is me.0.stage m n e waits in ((λ found. absurd (apart (found ∙ ap (λ (k : ℕ). k % 18446744073709551616) same))), (λ _. refl)),
      ))
