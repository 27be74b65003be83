use Rattle.std.proofs.Common.{◌≡◌, ◌<◌, ◌^◌, ◌++◌, List, ℕ, length, ap, sym, subst, ◌∙◌}
use Rattle.table_rows.specs.Database.{database_of}
use Rattle.table_rows.specs.Rows.{State}
use Rattle.table_rows.specs.Undoing.{since}
use Rattle.change_set.specs.Payload.{HavePayload, payload}
use Rattle.change_set.proofs.NetFits.{net_payload}
use Rattle.change_set.proofs.ShortPayload.{payload_short}
use Rattle.redo_journal.specs.Root.{IsRoot}
use Rattle.table_recovery.proofs.PayloadLaws.{no_root}
use Rattle.table_book.specs.Committing.{before_all, noted}
use Rattle.table_book.proofs.Undoing.{same_shape, old_valid, new_valid}
use Rattle.table_book.proofs.committing.commit.Goals as goal

pub push_bytes-requires : goal.push_bytes-requires
push_bytes-requires g c =
    let tables : State = c.args.tables.now in
    let notes = c.args.undo.now.entries in
    let valid = c.schema.ensures.valid in
    subst HavePayload (sym c.in_ok-set.ensures) (net_payload (before_all notes tables) (database_of tables) (old_valid notes tables valid c.requires.undoable) (new_valid notes tables valid c.requires.undoable) (sym (same_shape (since 0 notes) tables).0))

pub append-requires-clause-fits : goal.append-requires-clause-fits
append-requires-clause-fits g c =
    let tables : State = c.args.tables.now in
    let notes = c.args.undo.now.entries in
    let valid = c.schema.ensures.valid in
    let bytes : c.deref.result.now ≡ payload (noted notes tables) =
    c.deref.ensures.value ∙ c.in_ok-push_bytes.ensures.bytes ∙ ap (λ (bs : List ℕ). bs ++ payload c.in_ok-set.set.changes) c.new-bytes.ensures.items ∙ ap payload c.in_ok-set.ensures in
    subst (λ (bs : List ℕ). length bs < 2 ^ 32) (sym bytes) (payload_short (before_all notes tables) (database_of tables) (old_valid notes tables valid c.requires.undoable) (new_valid notes tables valid c.requires.undoable))

pub append-requires-clause-no_root : goal.append-requires-clause-no_root
append-requires-clause-no_root g c =
    let tables : State = c.args.tables.now in
    let bytes : c.deref.result.now ≡ payload (noted c.args.undo.now.entries tables) =
    c.deref.ensures.value ∙ c.in_ok-push_bytes.ensures.bytes ∙ ap (λ (bs : List ℕ). bs ++ payload c.in_ok-set.set.changes) c.new-bytes.ensures.items ∙ ap payload c.in_ok-set.ensures in
    subst (λ (bs : List ℕ). IsRoot bs → ⊥) (sym bytes) (no_root (noted c.args.undo.now.entries tables))
