-- A batch that was carried out, seen from what it noted.
--     taken      the rows from before it, once all is taken back
--     same_limit, none_lower      it keeps the limit, and lowers no counter
use Rattle.std.proofs.Common.{◌≡◌, List, [], refl, sym, ap, subst, ◌∙◌}
use Rattle.request_types.specs.declared.batches.Item.{Item}
use Rattle.table_rows.specs.declared.undo.Undo.{Undo}
use Rattle.table_rows.specs.Database.{Database, database_of}
use Rattle.table_rows.specs.GoingBack.{CanGoBack}
use Rattle.table_rows.specs.Rows.{State}
use Rattle.table_rows.specs.Undoing.{since, undone_all}
use Rattle.table_rows.proofs.GoingBack.{taken_back}
use Rattle.batch_answers.specs.Answers.{after}
use Rattle.change_set.specs.Putting.{NoneLower}
use Rattle.table_book.specs.Committing.{before_all}
use Rattle.table_book.proofs.Counters.{never_lower}
use Rattle.table_book.proofs.Undoing.{same_shape}

module _ (old new : State) (notes : List Undo) (back : CanGoBack old new [] notes) where
  pub taken : before_all notes new ≡ database_of old
  taken = taken_back old new (undone_all (since 0 notes) new) [] notes back refl

  pub same_limit : new.bytes_max ≡ old.bytes_max
  same_limit = sym (same_shape (since 0 notes) new).1 ∙ ap (λ (db : Database). db.bytes_max) taken

  pub none_lower : (items : List Item) → database_of new ≡ after (database_of old) items → NoneLower (before_all notes new).tables (database_of new).tables
  none_lower items is =
      subst (λ (s : Database × Database). NoneLower s.0.tables s.1.tables) (λ i. (sym taken i, sym is i)) (never_lower (database_of old) items)
