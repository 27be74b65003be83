-- What a seat's steps mean for what its pass knows.
use Rattle.std.proofs.Common.{◌≡◌, ℕ, ◌≤◌, List, Some, None, refl, sym, ap, ◌∙◌, subst}
use Rattle.std.specs.Prelude.{Option}
use mathlib.Core.List.{IsPrefix}
use Rattle.atomic_table.specs.Table.{Me}
use Rattle.atomic_table.specs.Seated.{TableId}
use Rattle.turn_lock.specs.declared.view.View.{View}
use Rattle.turn_lock.specs.declared.view.Stage.TheVariants.{Rests, Holds}
use Rattle.turn_lock.specs.Histories.{made_by}
use Rattle.turn_lock.specs.Known.{Known}
use Rattle.turn_lock.specs.Steps.{Turn, Settles, HandedIn, waiting, holding, grown_by, resting, joined}
use Rattle.turn_lock.specs.Turns.{StandsFor, Begins, Joined, begun, ended, added}

-- what a view says, of a pass of this lock
abbrev pub known : {B E : Type 0} → TableId → View B E → Known B E
known lock v =
    record { lock = lock; number = v.number; passes = v.passes; opened = v.opened; seen = v.seen; mine = v.mine; faults = v.faults; found = v.found; left = v.left }

module _ {B E : Type 0} (stands : B → List E → B → Type 0) (maker : E → ℕ) (faults : B → ℕ) where
  pub joined_known : (lock after : TableId) (m n : Me (Option B) (View B E)) (v w : View B E) (lock' : TableId) (pass other : Known B E)
      → known lock v ≡ pass → known lock' w ≡ other → after ≡ lock → m.0 ≡ joined v w → Settles stands maker faults w.number w.seen w.mine v.seen m n
      → Joined maker pass other (known after n.0)
  joined_known lock after m n v w lock' pass other is is' same join s =
      let view : n.0 ≡ record (joined v w) { stage = Rests } = ap (λ (x : Me (Option B) (View B E)). x.0) s.rests ∙ ap (λ (x : View B E). record x { stage = Rests }) join in
      let seen : m.0.seen ≡ n.0.seen = ap (λ (x : View B E). x.seen) join ∙ sym (ap (λ (x : View B E). x.seen) view) in
      subst (λ (z : Known B E × Known B E). Joined maker z.0 z.1 (known after n.0)) (λ i. (is i, is' i))
      (record {
        joins = λ i. known (same i) (view i);
        prefix = subst (IsPrefix v.seen) seen s.mine_seen;
        other_prefix = subst (IsPrefix w.seen) seen s.theirs_seen;
        own = (λ i. made_by maker (ap (λ (x : View B E). x.number) (sym join) i) (sym seen i)) ∙ (s.my_own ∙ ap (λ (x : View B E). x.mine) join);
        other_own = ap (made_by maker w.number) (sym seen) ∙ s.their_own;
      })

  pub begun_known : (lock after : TableId) (v : View B E) (k n : ℕ) (m m' : Me (Option B) (View B E)) (pass : Known B E) (value : B)
      → known lock v ≡ pass → after ≡ lock → m.0 ≡ waiting k v → (t : Turn stands maker faults n m m') → t.kept ≡ value → Begins maker pass (faults value) (known after m'.0)
  begun_known lock after v k n m m' pass value is same wait t kept =
      let view : m'.0 ≡ holding n t.history (faults value) (waiting k v) = t.view ∙ (λ i. holding n t.history (faults (kept i)) (wait i)) in
      let seen : t.history ≡ m'.0.seen = sym (ap (λ (x : View B E). x.seen) view) in
      let found : known after m'.0 ≡ known lock (holding n t.history (faults value) (waiting k v)) = λ i. known (same i) (view i) in
      subst (λ (z : Known B E). Begins maker z (faults value) (known after m'.0)) is
      (record {
        begins = found ∙ ap (λ (h : List E). begun h (faults value) (known lock v)) seen;
        prefix = subst (IsPrefix v.seen) seen (subst (λ (x : View B E). IsPrefix x.seen t.history) wait t.prefix);
        own = ap (made_by maker v.number) (sym seen) ∙ subst (λ (x : View B E). made_by maker x.number t.history ≡ x.mine) wait t.own;
        no_fewer_faults = subst (λ (f : ℕ). v.faults ≤ f) (ap faults kept) (subst (λ (x : View B E). x.faults ≤ faults t.kept) wait t.no_fewer_faults);
      })

  grown_known : (lock : TableId) (entry : Option E) (f : ℕ) (v : View B E) → known lock (resting f (grown_by entry v)) ≡ ended entry f (known lock v)
  grown_known lock None f v = refl
  grown_known lock (Some e) f v = refl

  pub ended_known : (lock after : TableId) (v : View B E) (entry : Option E) (m m' m'' : Me (Option B) (View B E)) (turn : Known B E) (value : B)
      → known lock v ≡ turn → after ≡ lock → m.0 ≡ v → (h : HandedIn value entry m m') → m''.0 ≡ resting (faults h.kept) m'.0 → known after m''.0 ≡ ended entry (faults value) turn
  ended_known lock after v entry m m' m'' turn value is same at h rest =
      let view : m''.0 ≡ resting (faults value) (grown_by entry v) = rest ∙ (λ i. resting (faults (h.value_is i)) ((h.view ∙ ap (grown_by entry) at) i)) in
      (λ i. known (same i) (view i)) ∙ (grown_known lock entry (faults value) v ∙ ap (ended entry (faults value)) is)

  -- the turn may end: the value that was handed in is that of the history that its pass has now seen
  pub record MayEnd (n : ℕ) (kept : B) (v : View B E) : Type 0 where
    pub holds : v.stage ≡ Holds n
    pub stood : (o : B) → v.opened ≡ Some o → stands o v.seen kept
    pub fewer : v.faults ≤ faults kept

  grown_may : (n : ℕ) (v : View B E) (entry : Option E) (value : B) → v.stage ≡ Holds n → StandsFor stands v.opened (added v.seen entry) value → v.faults ≤ faults value → MayEnd n value (grown_by entry v)
  grown_may n v None value holds stood fewer = record { holds = holds; stood = stood; fewer = fewer }
  grown_may n v (Some e) value holds stood fewer = record { holds = holds; stood = stood; fewer = fewer }

  pub may_end : (lock : TableId) (m m' : Me (Option B) (View B E)) (turn : Known B E) (entry : Option E) (value : B) (n : ℕ) → known lock m.0 ≡ turn → m.0.stage ≡ Holds n
      → StandsFor stands turn.opened (added turn.seen entry) value → turn.faults ≤ faults value → (h : HandedIn value entry m m') → MayEnd n h.kept m'.0
  may_end lock m m' turn entry value n is holds stood fewer h =
      let may : MayEnd n value (grown_by entry m.0) = grown_may n m.0 entry value holds (subst (λ (t : Known B E). StandsFor stands t.opened (added t.seen entry) value) (sym is) stood)
      (subst (λ (t : Known B E). t.faults ≤ faults value) (sym is) fewer) in
      subst (λ (z : B × View B E). MayEnd n z.0 z.1) (λ i. (sym h.value_is i, sym h.view i)) may
