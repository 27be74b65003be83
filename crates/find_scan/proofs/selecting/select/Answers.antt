use Rattle.std.proofs.Common.{◌≡◌, true, ◌∙◌, sym, ap, subst}
use Rattle.std.specs.List.{All}
use Rattle.table_rows.specs.declared.slot_ref.SlotRef.{SlotRef}
use Rattle.table_rows.specs.Slots.{is_live_in}
use Rattle.table_rows.specs.Named.{AreDistinct}
use Rattle.find_scan.specs.Select.{found, keys_of}
use Rattle.find_scan.specs.Gathering.{Gathered, gives}
use Rattle.find_scan.proofs.Chosen.{selected_live}
use Rattle.find_scan.proofs.Distinct.{distinct_selected}
use Rattle.find_scan.proofs.Fitting.{rows_own, rows_apart, list_there}
use Rattle.find_scan.proofs.Gathered.{none_more}
use Rattle.find_scan.proofs.selecting.select.Goals as goal

pub returns-clause-selected : goal.returns-clause-selected
returns-clause-selected c =
    c.into_slots.ensures ∙ sym (none_more c.scan_all.new.selection) ∙ c.in_ok-scan_all.ensures
    ∙ ap (λ (g : Gathered). gives c.args.spec.now.filters g (found c.args.tables.now c.args.spec.now (keys_of c.args.spec.now.key c.args.spec.now.within))) c.new-selection.ensures

pub returns-clause-live : goal.returns-clause-live
returns-clause-live c =
    subst (All (λ (slot : SlotRef). is_live_in c.args.tables.now c.args.spec.now.table slot.0 ≡ true)) (sym (returns-clause-selected c)) (selected_live c.args.tables.now c.args.spec.now)

pub returns-clause-distinct : goal.returns-clause-distinct
returns-clause-distinct c =
    let state = c.args.tables.now in
    let spec = c.args.spec.now in
    let valid = c.schema.ensures.valid in
    subst AreDistinct (sym (returns-clause-selected c))
    (distinct_selected state spec (rows_own state spec c.requires valid) (rows_apart state spec c.requires valid) (list_there state spec c.requires))
