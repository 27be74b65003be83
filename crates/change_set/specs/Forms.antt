-- What may stand in a payload, and what in an area.
use Rattle.std.specs.Prelude.{◌≡◌, ℕ, Bool, true, false, not, ◌==◌, List}
use Rattle.std.specs.List.{AllByRecursion}
use Rattle.change_set.specs.declared.change.Change.{Change}
use Rattle.change_set.specs.declared.change.Change.TheVariants.{Put, Delete, Count}
use Rattle.change_set.specs.declared.form.Form.{Form}
use Rattle.change_set.specs.declared.form.Form.TheVariants as forms

-- Whether a change deletes a row.
abbrev pub deletes : Change → Bool
deletes (Put table row) = false
deletes (Delete table key) = true
deletes (Count table counter) = false

-- None of these changes does.
abbrev pub DeletesNone : List Change → Type 0
DeletesNone changes = AllByRecursion (λ (change : Change). deletes change ≡ false) changes

-- Nothing is deleted in an area.
abbrev pub may_have : Form → Change → Bool
may_have forms.Payload change = true
may_have forms.Area change = not (deletes change)

-- A payload has one change at least.
abbrev pub may_count : Form → ℕ → Bool
may_count forms.Payload count = not (count == 0)
may_count forms.Area count = true
