-- What is told of a connection, line by line.
use Rattle.std.proofs.Common.{◌≡◌, ◌-◌, ℕ, List, [], ◌∷◌, ◌++◌, length, take, drop, min, arith, length-drop, Option, Some, refl, sym, ap, ◌∙◌, append_assoc}
use Rattle.std.specs.Prelude.{codes}
use Rattle.std.proofs.lemmas.List.{append-nil, take_all, drop_min}
use Rattle.line_pipeline.specs.declared.conns.Conn.{Conn}
use Rattle.line_pipeline.specs.declared.conns.Conn.TheVariants as conns
use Rattle.line_pipeline.specs.declared.reasons.Reason.{Reason}
use Rattle.line_pipeline.specs.Live.{Live}
use Rattle.replay_turns.specs.Linked.{Linked, linked_at}
use Rattle.replay_turns.specs.Told.{told, all_told, sent_line, closed_line, reason_word, line_of, sent_so_far}
use Rattle.replay_turns.specs.Telling.{counts_of, told_each}

-- the bytes that were sent behind so many
pub behind-is : (count first : ℕ) (sent bytes : List ℕ) → first ≡ min count (length sent) → bytes ≡ take (length sent - first) (drop first sent) → bytes ≡ drop count sent
behind-is count first sent bytes at is =
    is
    ∙ take_all (length sent - first) (drop first sent) (omega (arith, length-drop first sent))
    ∙ ap (λ (n : ℕ). drop n sent) at
    ∙ drop_min count sent

told_is : (count number : ℕ) (l : Linked) (o : Option Linked) (conn : Conn) → o ≡ Some l → l.number ≡ number → l.told.conn ≡ conn → told count o ≡ sent_line number (drop count l.told.sent) ++ closed_line number conn
told_is count number l o conn at is over =
    ap (told count) at
    ∙ ap (λ (n : ℕ). sent_line n (drop count l.told.sent) ++ closed_line n l.told.conn) is
    ∙ ap (λ (c : Conn). sent_line number (drop count l.told.sent) ++ closed_line number c) over

pub told-closed : (text now later : List ℕ) (count number : ℕ) (l : Linked) (o : Option Linked) (bytes : List ℕ) (reason : Reason) → o ≡ Some l → l.number ≡ number → bytes ≡ drop count l.told.sent → l.told.conn ≡ conns.Closed reason → now ≡ text ++ line_of (codes "sent") number bytes → later ≡ now ++ line_of (codes "closed") number (reason_word reason) → later ≡ text ++ told count o
told-closed text now later count number l o bytes reason at is same over first second =
    second
    ∙ ap (λ (t : List ℕ). t ++ line_of (codes "closed") number (reason_word reason)) (first ∙ ap (λ (b : List ℕ). text ++ sent_line number b) same)
    ∙ append_assoc text (sent_line number (drop count l.told.sent)) (line_of (codes "closed") number (reason_word reason))
    ∙ ap (λ (t : List ℕ). text ++ t) (sym (told_is count number l o (conns.Closed reason) at is over))

pub told-live : (text now : List ℕ) (count number : ℕ) (l : Linked) (o : Option Linked) (bytes : List ℕ) (live : Live) → o ≡ Some l → l.number ≡ number → bytes ≡ drop count l.told.sent → l.told.conn ≡ conns.Live live → now ≡ text ++ line_of (codes "sent") number bytes → now ≡ text ++ told count o
told-live text now count number l o bytes live at is same stays first =
    first
    ∙ ap (λ (b : List ℕ). text ++ sent_line number b) same
    ∙ ap (λ (t : List ℕ). text ++ t) (sym (append-nil (sent_line number (drop count l.told.sent))) ∙ sym (told_is count number l o (conns.Live live) at is stays))

-- what is told by the counts of before is what a turn prints
pub each-told : (numbers : List ℕ) (before after : List Linked) → told_each numbers (counts_of before numbers) after ≡ all_told numbers before after
each-told [] before after = refl
each-told (number ∷ numbers) before after =
    ap (λ (text : List ℕ). told (sent_so_far (linked_at number before)) (linked_at number after) ++ text) (each-told numbers before after)
