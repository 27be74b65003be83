-- Of two that have seen beginnings of one history, one has seen a beginning of what the other has.
use Rattle.std.proofs.Common.{ℕ, ◌<◌, ◌≤◌, List, length, inl, inr, arith}
use mathlib.Core.List.{IsPrefix}
use Rattle.std.specs.Prelude.{Option}
use Rattle.atomic_table.specs.Table.{State}
use Rattle.turn_lock.specs.declared.view.View.{View}
use Rattle.turn_lock.specs.declared.view.Dealt.{Dealt}
use Rattle.turn_lock.specs.Agreement.{OneBegins, SeenAgree}
use Rattle.turn_lock.specs.Serial.{IsSerial}
use Rattle.turn_lock.specs.Known.{Known}
use Rattle.turn_lock.specs.Turns.{Joined}
use Rattle.known_lists.proofs.Prefixes.{prefix_of, longer_case}

one_begins : {E : Type 0} (xs ys zs : List E) → IsPrefix xs zs → IsPrefix ys zs → OneBegins xs ys
one_begins {E} xs ys zs p q =
    longer_case (λ (l : List E). OneBegins xs ys) xs ys
    (λ (h : length xs < length ys). inl (prefix_of xs ys zs p q (omega arith)))
    (λ (h : length ys ≤ length xs). inr (prefix_of ys xs zs q p h))

pub joined_agree : {B E : Type 0} (maker : E → ℕ) (a b both : Known B E) → Joined maker a b both → OneBegins a.seen b.seen
joined_agree maker a b both j = one_begins a.seen b.seen both.seen j.prefix j.other_prefix

module _ {B E : Type 0} (stands : B → List E → B → Type 0) (maker : E → ℕ) (place : B → ℕ) (faults : B → ℕ) where
  pub views_agree : (dealt : Dealt B) (s : State (Option B) (View B E)) → IsSerial stands maker place faults dealt s → SeenAgree s.views
  views_agree dealt s r i j v w at there knows knows' =
      one_begins v.seen w.seen r.history (r.each_view i v at knows).prefix (r.each_view j w there knows').prefix
