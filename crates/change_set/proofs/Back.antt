-- Changes on the way that can be taken back.
--     reserved_back, change_back, put_back      no change, one that is noted, and one after slots were added
use Rattle.std.proofs.Common.{◌≡◌, ℕ, ◌<◌, List, [], ◌∷◌, ◌++◌, length, take, ap, sym, subst, ◌∙◌}
use Rattle.std.proofs.Math.Seq.{take-append_seam}
use Rattle.table_rows.specs.declared.undo.Undo.{Undo}
use Rattle.table_rows.specs.Rows.{State}
use Rattle.table_rows.specs.Undoing.{since, LeadsBack}
use Rattle.table_rows.specs.Widths.{IsWidened, with_slots}
use Rattle.table_rows.specs.GoingBack.{CanGoBack}
use Rattle.table_rows.proofs.Wider.{slots_widened}
use Rattle.table_rows.proofs.Roomier.{roomier_itself, widened_roomier}
use Rattle.table_rows.proofs.GoingBack.{noted_by, goes_none, goes_noted}

pub reserved_back : (before after : State) (undos room : List Undo) → after ≡ before → room ≡ undos → CanGoBack before after undos room
reserved_back before after undos room still same =
    subst (λ (s : State). CanGoBack before s undos room) (sym still) (subst (λ (us : List Undo). CanGoBack before before undos us) (sym same) (goes_none before undos))

pub change_back : (before after : State) (undos room more : List Undo) (undo : Undo) → room ≡ undos → more ≡ room ++ undo ∷ [] → LeadsBack (since (length room) more) after before → CanGoBack before after undos more
change_back before after undos room more undo same pushed back =
    subst (λ (us : List Undo). CanGoBack before after us more) same
    (goes_noted before before after room more (roomier_itself before) (noted_by before after room more (ap (take (length room)) pushed ∙ take-append_seam room (undo ∷ [])) back))

pub put_back : (before wide after : State) (table : ℕ) (undos room more : List Undo) (undo : Undo) → table < length before.tables → wide ≡ with_slots before table 1 → room ≡ undos → more ≡ room ++ undo ∷ [] → LeadsBack (since (length room) more) after wide → CanGoBack before after undos more
put_back before wide after table undos room more undo within widened same pushed back =
    let is = subst (IsWidened table before) (sym widened) (slots_widened before table within 1) in
    subst (λ (us : List Undo). CanGoBack before after us more) same
    (goes_noted before wide after room more (widened_roomier table before wide is) (noted_by wide after room more (ap (take (length room)) pushed ∙ take-append_seam room (undo ∷ [])) back))
