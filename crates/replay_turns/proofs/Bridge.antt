-- What a turn makes of the connections of the listed numbers, one after another.
use Rattle.std.proofs.Common.{◌≡◌, ℕ, true, false, eqb, List, [], ◌∷◌, ◌++◌, Option, Some, None, refl, sym, ap, subst, ◌∙◌, ⊎_elim}
use Rattle.std.specs.Prelude.{if◌then◌else◌, map, option_to_list}
use Rattle.std.proofs.lemmas.Bool.{cases_Bool}
use Rattle.request_types.specs.declared.connections.ConnId.{ConnId}
use Rattle.request_types.specs.Ids.{same_id, is_listed, are_once}
use Rattle.request_types.proofs.Ids.{same_id-refl, not_listed-other, once-head, once-tail}
use Rattle.batch_worker.specs.Told.{Told}
use Rattle.replay_turns.specs.declared.entries.Entry.{Entry}
use Rattle.replay_turns.specs.Linked.{Linked, on, on_all, with}
use Rattle.replay_turns.specs.Entries.{id_at, ids_at, ids_of}
use Rattle.replay_turns.proofs.Lookups.{Missing}
use Rattle.replay_turns.proofs.Places.{apart}
use Rattle.replay_turns.proofs.Numbers.{some_id, none_id, id_here, id_more, missing_id, id_listed}

-- an entry with what is told of its connection
abbrev pub seen : (ConnId → Told) → Entry → Linked
seen g e = record { number = e.number; port = e.port; told = g e.id }

-- all entries with what is told of their connections
abbrev pub all_seen : (ConnId → Told) → List Entry → List Linked
all_seen g es = map (seen g) es

-- the same is told of each
pub same_seen : (g h : ConnId → Told) (es : List Entry) → ((x : ConnId) → is_listed (ids_of es) x ≡ true → h x ≡ g x) → all_seen h es ≡ all_seen g es
same_seen g h [] same = refl
same_seen g h (e ∷ es) same =
    let here : is_listed (ids_of (e ∷ es)) e.id ≡ true = rw (same_id-refl e.id) refl in
    rw (same e.id here, same_seen g h es (λ x listed. same x (more x listed))) refl
  where
    more : (x : ConnId) → is_listed (ids_of es) x ≡ true → is_listed (ids_of (e ∷ es)) x ≡ true
    more x listed = ⊎_elim (λ is. rw is refl) (λ other. rw other listed) (cases_Bool (same_id x e.id))

on-missing : (g : ConnId → Told) (f : Linked → Linked) (number : ℕ) (es : List Entry) → Missing number es → on number f (all_seen g es) ≡ all_seen g es
on-missing g f number [] none = refl
on-missing g f number (e ∷ es) none = rw none.0 (ap (λ (ls : List Linked). seen g e ∷ ls) (on-missing g f number es none.1))

module _ (f : Told → Told) where
  -- one of them went over
  abbrev one : (ConnId → Told) → ConnId → ConnId → Told
  one g id x = if same_id x id then f (g x) else g x

  one-own : (g : ConnId → Told) (id x : ConnId) → same_id x id ≡ true → one g id x ≡ f (g x)
  one-own g id x same = rw same refl

  one-other : (g : ConnId → Told) (id x : ConnId) → same_id x id ≡ false → one g id x ≡ g x
  one-other g id x other = rw other refl

  on-one : (g : ConnId → Told) (number : ℕ) (id : ConnId) (es : List Entry) → are_once (ids_of es) ≡ true → id_at number es ≡ Some id → on number (with f) (all_seen g es) ≡ all_seen (one g id) es
  on-one g number id [] once is = absurd (none_id id is)
  on-one g number id (e ∷ es) once is =
      ⊎_elim
      (λ here.
      let same : e.id ≡ id = some_id e.id id (sym (id_here number e es here) ∙ is) in
      let own : one g id e.id ≡ f (g e.id) = one-own g id e.id (subst (λ (x : ConnId). same_id e.id x ≡ true) same (same_id-refl e.id)) in
      let none : is_listed (ids_of es) id ≡ false = subst (λ (x : ConnId). is_listed (ids_of es) x ≡ false) same (once-head e.id (ids_of es) once) in
      let rest : all_seen (one g id) es ≡ all_seen g es = same_seen g (one g id) es (λ x listed. one-other g id x (not_listed-other (ids_of es) id x none listed)) in
      rw here (ap (λ (t : Told). record { number = e.number; port = e.port; told = t } ∷ all_seen g es) (sym own) ∙ ap (λ (ls : List Linked). seen (one g id) e ∷ ls) (sym rest)))
      (λ other.
      let at : id_at number es ≡ Some id = sym (id_more number e es other) ∙ is in
      let different : same_id e.id id ≡ false = apart (ids_of es) id e.id (id_listed number es id at) (once-head e.id (ids_of es) once) in
      let kept : one g id e.id ≡ g e.id = one-other g id e.id different in
      rw other (ap (λ (t : Told). record { number = e.number; port = e.port; told = t } ∷ on number (with f) (all_seen g es)) (sym kept)
      ∙ ap (λ (ls : List Linked). seen (one g id) e ∷ ls) (on-one g number id es (once-tail e.id (ids_of es) once) at)))
      (cases_Bool (eqb e.number number))

  module _ (es : List Entry) (once : are_once (ids_of es) ≡ true) where
    -- those of these ids went over, and no others
    pub record WentOver (ids : List ConnId) (g h : ConnId → Told) : Type 0 where
      pub listed : (x : ConnId) → is_listed (ids_of es) x ≡ true → is_listed ids x ≡ true → h x ≡ f (g x)
      pub others : (x : ConnId) → is_listed (ids_of es) x ≡ true → is_listed ids x ≡ false → h x ≡ g x

    after_one : (id : ConnId) (ids : List ConnId) (g h : ConnId → Told) → is_listed ids id ≡ false → WentOver (id ∷ ids) g h → WentOver ids (one g id) h
    after_one id ids g h none went = record {
      listed = λ x is listed.
          let other : same_id x id ≡ false = not_listed-other ids id x none listed in
          went.listed x is (rw other listed) ∙ ap f (sym (one-other g id x other));
      others = λ x is unlisted.
          ⊎_elim
          (λ same. went.listed x is (rw same refl) ∙ sym (one-own g id x same))
          (λ other. went.others x is (rw other unlisted) ∙ sym (one-other g id x other))
          (cases_Bool (same_id x id));
    }

    step : (number : ℕ) (numbers : List ℕ) (g h : ConnId → Told) → ((g2 : ConnId → Told) → are_once (ids_at es numbers) ≡ true → WentOver (ids_at es numbers) g2 h → all_seen h es ≡ on_all numbers (with f) (all_seen g2 es)) → (o : Option ConnId) → id_at number es ≡ o → are_once (option_to_list o ++ ids_at es numbers) ≡ true → WentOver (option_to_list o ++ ids_at es numbers) g h → all_seen h es ≡ on_all numbers (with f) (on number (with f) (all_seen g es))
    step number numbers g h again None at ids went =
        again g ids went ∙ ap (on_all numbers (with f)) (sym (on-missing g (with f) number es (missing_id number es at)))
    step number numbers g h again (Some id) at ids went =
        again (one g id) (once-tail id (ids_at es numbers) ids) (after_one id (ids_at es numbers) g h (once-head id (ids_at es numbers) ids) went)
        ∙ ap (on_all numbers (with f)) (sym (on-one g number id es once at))

    pub on_all-is : (numbers : List ℕ) (g h : ConnId → Told) → are_once (ids_at es numbers) ≡ true → WentOver (ids_at es numbers) g h → all_seen h es ≡ on_all numbers (with f) (all_seen g es)
    on_all-is [] g h ids went = same_seen g h es (λ x listed. went.others x listed refl)
    on_all-is (number ∷ numbers) g h ids went = step number numbers g h (λ g2. on_all-is numbers g2 h) (id_at number es) refl ids went
