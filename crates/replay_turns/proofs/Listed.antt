-- What a turn makes of one of the connections that it lists.
use Rattle.std.proofs.Common.{◌≡◌, ℕ, Bool, true, false, eqb, List, [], ◌∷◌, Some, option_map, refl, sym, ap, subst, ◌∙◌, ⊎_elim}
use Rattle.std.specs.Prelude.{nat_eq}
use Rattle.std.specs.List.{list_any}
use Rattle.std.proofs.lemmas.Bool.{cases_Bool, or_parts, both_ways, eqb-true}
use Rattle.row_types.specs.declared.tables.Schema.{Schema}
use Rattle.row_types.specs.Valid.{are_distinct}
use Rattle.table_rows.specs.Database.{Database}
use Rattle.batch_worker.specs.Told.{Told, received, passed}
use Rattle.replay_turns.specs.Linked.{Linked, linked_at, on, on_all, with}
use Rattle.replay_turns.specs.Replying.{replied, with_replies, rows_after, all_replied}
use Rattle.batch_worker.specs.declared.ends.TurnEnd.TheVariants.{Done}
use Rattle.replay_turns.specs.Session.{answered}
use Rattle.replay_turns.specs.Owed.{turned}
use Rattle.replay_turns.proofs.Numbers.{distinct_parts}

here-is : (n : ℕ) (l : Linked) (ls : List Linked) → eqb l.number n ≡ true → linked_at n (l ∷ ls) ≡ Some l
here-is n l ls is = rw is refl

more-is : (n : ℕ) (l : Linked) (ls : List Linked) → eqb l.number n ≡ false → linked_at n (l ∷ ls) ≡ linked_at n ls
more-is n l ls is = rw is refl

on-here : (n : ℕ) (g : Linked → Linked) (l : Linked) (ls : List Linked) → eqb l.number n ≡ true → on n g (l ∷ ls) ≡ g l ∷ ls
on-here n g l ls is = rw is refl

on-more : (n : ℕ) (g : Linked → Linked) (l : Linked) (ls : List Linked) → eqb l.number n ≡ false → on n g (l ∷ ls) ≡ l ∷ on n g ls
on-more n g l ls is = rw is refl

on-own : (f : Told → Told) (n : ℕ) (ls : List Linked) → linked_at n (on n (with f) ls) ≡ option_map (with f) (linked_at n ls)
on-own f n [] = refl
on-own f n (l ∷ ls) =
    ⊎_elim
    (λ here. ap (linked_at n) (on-here n (with f) l ls here) ∙ here-is n (with f l) ls here ∙ ap (option_map (with f)) (sym (here-is n l ls here)))
    (λ other. ap (linked_at n) (on-more n (with f) l ls other) ∙ more-is n l (on n (with f) ls) other ∙ on-own f n ls ∙ ap (option_map (with f)) (sym (more-is n l ls other)))
    (cases_Bool (eqb l.number n))

on-other : (f : Told → Told) (n m : ℕ) (ls : List Linked) → eqb m n ≡ false → linked_at n (on m (with f) ls) ≡ linked_at n ls
on-other f n m [] differ = refl
on-other f n m (l ∷ ls) differ =
    ⊎_elim
    (λ here.
    let apart : eqb l.number n ≡ false = subst (λ (k : ℕ). eqb k n ≡ false) (sym (eqb-true l.number m here)) differ in
    ap (linked_at n) (on-here m (with f) l ls here) ∙ more-is n (with f l) ls apart ∙ sym (more-is n l ls apart))
    (λ other.
    ap (linked_at n) (on-more m (with f) l ls other)
    ∙ ⊎_elim
    (λ own. here-is n l (on m (with f) ls) own ∙ sym (here-is n l ls own))
    (λ apart. more-is n l (on m (with f) ls) apart ∙ on-other f n m ls differ ∙ sym (more-is n l ls apart))
    (cases_Bool (eqb l.number n)))
    (cases_Bool (eqb l.number m))

-- this number is among these
abbrev pub is_among : ℕ → List ℕ → Bool
is_among n numbers = list_any (λ y. nat_eq y n) numbers

among-more : (n m : ℕ) (numbers : List ℕ) → nat_eq m n ≡ false → is_among n (m ∷ numbers) ≡ true → is_among n numbers ≡ true
among-more n m numbers differ among = sym (later differ) ∙ among
  where
    later : nat_eq m n ≡ false → is_among n (m ∷ numbers) ≡ is_among n numbers
    later is = rw is refl

module _ (n : ℕ) where
  all-none : (f : Told → Told) (numbers : List ℕ) (ls : List Linked) → is_among n numbers ≡ false → linked_at n (on_all numbers (with f) ls) ≡ linked_at n ls
  all-none f [] ls none = refl
  all-none f (m ∷ numbers) ls none =
      let parts = or_parts (nat_eq m n) (is_among n numbers) none in
      all-none f numbers (on m (with f) ls) parts.1 ∙ on-other f n m ls parts.0

  all-own : (f : Told → Told) (numbers : List ℕ) (ls : List Linked) → are_distinct nat_eq numbers ≡ true → is_among n numbers ≡ true → linked_at n (on_all numbers (with f) ls) ≡ option_map (with f) (linked_at n ls)
  all-own f [] ls distinct among = absurd (both_ways false refl among)
  all-own f (m ∷ numbers) ls distinct among =
      let parts = distinct_parts (list_any (λ y. nat_eq y m) numbers) (are_distinct nat_eq numbers) distinct in
      ⊎_elim
      (λ same.
      let is : m ≡ n = eqb-true m n same in
      all-none f numbers (on m (with f) ls) (subst (λ (k : ℕ). is_among k numbers ≡ false) is parts.0)
      ∙ ap (λ (k : ℕ). linked_at n (on k (with f) ls)) is ∙ on-own f n ls)
      (λ differ.
      all-own f numbers (on m (with f) ls) parts.1 (among-more n m numbers differ among)
      ∙ ap (option_map (with f)) (on-other f n m ls differ))
      (cases_Bool (nat_eq m n))

  module _ (schema : Schema) where
    -- the reply to the connection's lines, on these rows
    abbrev reply : Database → Told → Told
    reply db t = record t { conn = replied schema db t.conn }

    replies-none : (numbers : List ℕ) (db : Database) (ls : List Linked) → is_among n numbers ≡ false → linked_at n (all_replied schema numbers db ls).1 ≡ linked_at n ls
    replies-none [] db ls none = refl
    replies-none (m ∷ numbers) db ls none =
        let parts = or_parts (nat_eq m n) (is_among n numbers) none in
        replies-none numbers (rows_after schema db (linked_at m ls)) (on m (with_replies schema db) ls) parts.1 ∙ on-other (reply db) n m ls parts.0

    replies-own : (numbers : List ℕ) (db : Database) (ls : List Linked) → are_distinct nat_eq numbers ≡ true → is_among n numbers ≡ true → (rows : Database) × (linked_at n (all_replied schema numbers db ls).1 ≡ option_map (with (reply rows)) (linked_at n ls))
    replies-own [] db ls distinct among = absurd (both_ways false refl among)
    replies-own (m ∷ numbers) db ls distinct among =
        let parts = distinct_parts (list_any (λ y. nat_eq y m) numbers) (are_distinct nat_eq numbers) distinct in
        let next = rows_after schema db (linked_at m ls) in
        ⊎_elim
        (λ same.
        let is : m ≡ n = eqb-true m n same in (
          db,
          replies-none numbers next (on m (with_replies schema db) ls) (subst (λ (k : ℕ). is_among k numbers ≡ false) is parts.0)
              ∙ ap (λ (k : ℕ). linked_at n (on k (with (reply db)) ls)) is ∙ on-own (reply db) n ls,
        ))
        (λ differ.
        let later = replies-own numbers next (on m (with_replies schema db) ls) parts.1 (among-more n m numbers differ among) in (
          later.0,
          later.1 ∙ ap (option_map (with (reply later.0))) (on-other (reply db) n m ls differ),
        ))
        (cases_Bool (nat_eq m n))

    pub answered-own : (numbers : List ℕ) (db : Database) (ls : List Linked) (l : Linked) → are_distinct nat_eq numbers ≡ true → is_among n numbers ≡ true → linked_at n ls ≡ Some l → (rows : Database) × (linked_at n (answered Done schema numbers db ls).1 ≡ Some (with (turned schema rows) l))
    answered-own numbers db ls l distinct among is =
        let heard = on_all numbers (with received) ls in
        let own = replies-own numbers db heard distinct among in (
          own.0,
          all-own passed numbers (all_replied schema numbers db heard).1 distinct among
              ∙ ap (option_map (with passed)) (own.1 ∙ ap (option_map (with (reply own.0))) (all-own received numbers ls distinct among ∙ ap (option_map (with received)) is)),
        )
