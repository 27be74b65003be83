-- Histories that go on.
--     state_joined      the tables after one history and then another
--     changes_joined, changes_front, numbered_joined, numbered_front      each batch changes a table, and is numbered, in a whole history and in its parts
use Rattle.std.proofs.Common.{◌≡◌, ◌≢◌, ℕ, suc, List, [], ◌∷◌, ◌++◌, refl, sym, ap, subst, ◌∙◌, append_assoc, arith}
use Rattle.std.proofs.lemmas.List.{length-append, append-nil}
use Rattle.request_types.specs.declared.batches.Item.{Item}
use Rattle.table_rows.specs.Database.{Database}
use Rattle.batch_answers.specs.Answers.{after}
use Rattle.table_book.specs.declared.entry.Entry.{Entry}
use Rattle.table_book.specs.Histories.{state, EachChanges, entries_of, AreNumbered, IsLegal, LeadsTo, with_entry}

pub state_joined : (base : Database) (history more : List Entry) → state base (history ++ more) ≡ state (state base history) more
state_joined base [] more = refl
state_joined base (e ∷ es) more = state_joined (after base e.batch.items) es more

changes_joined : (base : Database) (history more : List Entry) → EachChanges base history → EachChanges (state base history) more → EachChanges base (history ++ more)
changes_joined base [] more here there = there
changes_joined base (e ∷ es) more here there = (here.0, changes_joined (after base e.batch.items) es more here.1 there)

changes_front : (base : Database) (history more : List Entry) → EachChanges base (history ++ more) → EachChanges base history
changes_front base [] more all = tt
changes_front base (e ∷ es) more all = (all.0, changes_front (after base e.batch.items) es more all.1)

numbered_joined : (earlier history more : List Entry) → AreNumbered earlier history → AreNumbered (earlier ++ history) more → AreNumbered earlier (history ++ more)
numbered_joined earlier [] more here there = subst (λ (es : List Entry). AreNumbered es more) (append-nil earlier) there
numbered_joined earlier (e ∷ es) more here there =
    (here.0, numbered_joined (earlier ++ e ∷ []) es more here.1 (subst (λ (before : List Entry). AreNumbered before more) (sym (append_assoc earlier (e ∷ []) es)) there))

numbered_front : (earlier history more : List Entry) → AreNumbered earlier (history ++ more) → AreNumbered earlier history
numbered_front earlier [] more all = tt
numbered_front earlier (e ∷ es) more all = (all.0, numbered_front (earlier ++ e ∷ []) es more all.1)

pub legal_front : (base : Database) (history more : List Entry) → IsLegal base (history ++ more) → IsLegal base history
legal_front base history more legal = record {
  changes = changes_front base history more legal.changes;
  numbered = numbered_front [] history more legal.numbered;
}

pub begins : (base : Database) (first : ℕ) → LeadsTo base first [] base first
begins base first = record { legal = record { changes = tt; numbered = tt }; tables = refl; place = omega arith }

pub goes_on : (base now : Database) (first place seat : ℕ) (history : List Entry) (items : List Item) → LeadsTo base first history now place → after now items ≢ now → LeadsTo base first (with_entry history seat items) (after now items) (suc place)
goes_on base now first place seat history items leads differs =
    let entry : Entry = record { seat = seat; number = entries_of seat history; batch = record { items = items } } in
    let changed : after (state base history) items ≢ state base history = subst (λ (db : Database). after db items ≢ db) (sym leads.tables) differs in
    record {
      legal = record {
        changes = changes_joined base history (entry ∷ []) leads.legal.changes (changed, tt);
        numbered = numbered_joined [] history (entry ∷ []) leads.legal.numbered (refl, tt);
      };
      tables = state_joined base history (entry ∷ []) ∙ ap (λ (db : Database). after db items) leads.tables;
      place = omega (arith, length-append history (entry ∷ []), leads.place);
    }
