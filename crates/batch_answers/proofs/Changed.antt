-- A change of rows is the same, in whatever slots they are.
--     refusal_same, none_same      why a row is refused
--     all_same      what changes leave
use Rattle.std.proofs.Common.{◌≡◌, ℕ, ◌+◌, ◌-◌, ◌<◌, Bool, true, false, cond, List, [], ◌∷◌, map, length, get_or, set, Option, Some, None, Result, Ok, Err, refl, ap, ap₂, sym, subst, ◌∙◌, get_or-set_same, length-set}
use Rattle.std.specs.Prelude.{◌==◌, sum_by}
use Rattle.std.proofs.lemmas.List.{map-set, length-map, get_or-map}
use Rattle.row_types.specs.declared.values.Value.{Value}
use Rattle.row_types.specs.declared.tables.TableDef.{TableDef}
use Rattle.row_types.specs.declared.tables.Schema.{Schema}
use Rattle.row_types.specs.Size.{row_size}
use Rattle.row_types.specs.Counted.{counted_of}
use Rattle.table_rows.specs.Counters.{raised}
use Rattle.table_rows.specs.Entries.{Entry}
use Rattle.request_types.specs.declared.mods.ModSpec.{ModSpec}
use Rattle.request_types.specs.declared.codes.Code.{Code}
use Rattle.request_types.specs.declared.codes.Code.TheVariants as refused
use Rattle.table_rows.specs.declared.slot_ref.SlotRef.{SlotRef}
use Rattle.table_rows.specs.Rows.{Rows, State, no_table, no_rows}
use Rattle.table_rows.specs.Slots.{row_of, row_at, without, with_row, with_row_at, without_at}
use Rattle.table_rows.specs.Sizes.{total, is_full}
use Rattle.table_rows.specs.Checks.{null_column, dup_index, first_found}
use Rattle.row_insert.specs.Refusal.{is_too_long, code_of, refusal_of}
use Rattle.request_types.specs.Refusal.{◌>>=◌}
use Rattle.find_modify.specs.Cells.{changed_row}
use Rattle.find_modify.specs.Change.{unless_refused, with_instead, deletes, changed_one, changed_all}
use Rattle.table_rows.specs.Database.{Holding, no_holding, rows_alone, holding_in}
use Rattle.table_rows.proofs.Alone.{holding_size, total_alone}
use Rattle.batch_answers.proofs.Moved.{all_moved, alone_moved, dup_moved, without_moved, row_moved, put_moved}

-- all tables have the same rows, those of this one in slots that stand for each other
pub record AreMoved (f : ℕ → ℕ) (table : ℕ) (ts us : List Rows) : Type 0 where
  pub within : table < length us
  pub entries : (get_or ts table no_rows).entries ≡ all_moved f (get_or us table no_rows).entries
  pub alone : map holding_in ts ≡ map holding_in us

-- the slot that stands for another
abbrev pub moved_slot : (ℕ → ℕ) → SlotRef → SlotRef
moved_slot f slot = record { 0 = f slot.0 }

module _ (f : ℕ → ℕ) (table : ℕ) (ts us : List Rows) (same : AreMoved f table ts us) where
  within_these : table < length ts
  within_these =
      subst (λ (n : ℕ). table < n) (sym (length-map us holding_in) ∙ ap length (sym same.alone) ∙ length-map ts holding_in) same.within

  -- and the same counter
  pub counter_same : (get_or ts table no_rows).counter ≡ (get_or us table no_rows).counter
  counter_same =
      ap (λ (holding : Holding). holding.counter)
      (sym (get_or-map holding_in ts table no_rows no_holding within_these) ∙ ap (λ (holdings : List Holding). get_or holdings table no_holding) same.alone ∙ get_or-map holding_in us table no_rows no_holding same.within)

  -- the same rows come into the table
  pub moved_with : (xs ys : List Entry) (r q n m : ℕ) → n ≡ m → xs ≡ all_moved f ys → AreMoved f table (set ts table (record { entries = xs; room = r; counter = n })) (set us table (record { entries = ys; room = q; counter = m }))
  moved_with xs ys r q n m number is =
      let rows : rows_alone xs ≡ rows_alone ys = ap rows_alone is ∙ alone_moved f ys in
      record {
        within = subst (λ (n : ℕ). table < n) (sym (length-set us table _)) same.within;
        entries =
            ap (λ (rows : Rows). rows.entries) (get_or-set_same ts table (record { entries = xs; room = r; counter = n }) no_rows within_these)
            ∙ is
            ∙ ap (λ (rows : Rows). all_moved f rows.entries) (sym (get_or-set_same us table (record { entries = ys; room = q; counter = m }) no_rows same.within));
        alone =
            map-set holding_in ts table (record { entries = xs; room = r; counter = n })
            ∙ (λ i. set (same.alone i) table (record { rows = rows i; counter = number i }))
            ∙ sym (map-set holding_in us table (record { entries = ys; room = q; counter = m }));
      }

module _ (f : ℕ → ℕ) (apart : (a b : ℕ) → (f a == f b) ≡ (a == b)) (schema : Schema) (bytes_max : ℕ) (table : ℕ) where
  -- tables with these rows
  abbrev pub at : List Rows → State
  at tables = record { schema = schema; bytes_max = bytes_max; tables = tables }

  abbrev pub def : TableDef
  def = get_or schema.tables table no_table

  abbrev pub refusal_by : List Value → Option ℕ → ℕ → ℕ → Option Code
  refusal_by row dup bytes less =
      cond (is_too_long def.columns row) (Some refused.Value) (code_of (first_found (null_column def.columns row) dup (is_full bytes_max bytes (bytes - less + row_size row))))

  module _ (ts us : List Rows) (same : AreMoved f table ts us) where
    abbrev pub here : List Entry
    here = (get_or us table no_rows).entries

    total_same : total (at ts) ≡ total (at us)
    total_same = total_alone ts ∙ ap (sum_by holding_size) same.alone ∙ sym (total_alone us)

    pub refusal_same : (slot : ℕ) (row : List Value) → refusal_of (at ts) table row (Some (record { 0 = f slot })) ≡ refusal_of (at us) table row (Some (record { 0 = slot }))
    refusal_same slot row =
        ap (λ (es : List Entry). refusal_by row (dup_index def.indexes row (without (f slot) es)) (total (at ts)) (row_size (row_of (f slot) es))) same.entries
        ∙ ap (λ (es : List Entry). refusal_by row (dup_index def.indexes row es) (total (at ts)) (row_size (row_of (f slot) (all_moved f here)))) (without_moved f apart slot here)
        ∙ ap (λ (dup : Option ℕ). refusal_by row dup (total (at ts)) (row_size (row_of (f slot) (all_moved f here)))) (dup_moved f 0 def.indexes row (without slot here))
        ∙ ap₂ (refusal_by row (dup_index def.indexes row (without slot here))) total_same (ap row_size (row_moved f apart slot here))

    pub none_same : (row : List Value) → refusal_of (at ts) table row None ≡ refusal_of (at us) table row None
    none_same row =
        ap (λ (es : List Entry). refusal_by row (dup_index def.indexes row es) (total (at ts)) 0) same.entries
        ∙ ap (λ (dup : Option ℕ). refusal_by row dup (total (at ts)) 0) (dup_moved f 0 def.indexes row here)
        ∙ ap (λ (bytes : ℕ). refusal_by row (dup_index def.indexes row here) bytes 0) total_same

  -- both are refused alike, or have the same rows
  abbrev pub Same : Result State Code → Result State Code → Type 0
  Same (Ok s) (Ok c) = (ts : List Rows) × (us : List Rows) × (s ≡ at ts) × (c ≡ at us) × AreMoved f table ts us
  Same (Ok s) (Err b) = ⊥
  Same (Err a) (Ok c) = ⊥
  Same (Err a) (Err b) = a ≡ b

  same_then : (r q : Result State Code) (k m : State → Result State Code) → Same r q → ((ts us : List Rows) → AreMoved f table ts us → Same (k (at ts)) (m (at us))) → Same (r >>= k) (q >>= m)
  same_then (Ok s) (Ok c) k m (ts, us, here, there, same) later =
      subst (λ (x : State). Same (k x) (m c)) (sym here) (subst (λ (y : State). Same (k (at ts)) (m y)) (sym there) (later ts us same))
  same_then (Ok s) (Err b) k m same later = absurd same
  same_then (Err a) (Ok c) k m same later = absurd same
  same_then (Err a) (Err b) k m same later = same

  module _ (columns : List ℕ) (change : ModSpec) where
    module _ (ts us : List Rows) (same : AreMoved f table ts us) (slot : SlotRef) where
      put_same : (refusal : Option Code) (row : List Value) → Same (unless_refused refusal (with_row_at (at ts) table (f slot.0) row)) (unless_refused refusal (with_row_at (at us) table slot.0 row))
      put_same None row = (
        _,
        _,
        refl,
        refl,
        moved_with f table ts us same _ _ _ _ _ _ (ap (raised (counted_of def.columns) row) (counter_same f table ts us same))
            (ap (with_row def.indexes (f slot.0) row) same.entries ∙ put_moved f apart def.indexes slot.0 row (get_or us table no_rows).entries),
      )
      put_same (Some code) row = refl

      instead_same : (made : Result (List Value) Code) → Same (made >>= with_instead table (moved_slot f slot) (at ts)) (made >>= with_instead table slot (at us))
      instead_same (Err code) = refl
      instead_same (Ok row) =
          subst (λ (refusal : Option Code). Same (unless_refused refusal (with_row_at (at ts) table (f slot.0) row)) (unless_refused (refusal_of (at us) table row (Some slot)) (with_row_at (at us) table slot.0 row)))
          (sym (refusal_same ts us same slot.0 row)) (put_same (refusal_of (at us) table row (Some slot)) row)

      gone_same : Same (Ok (without_at (at ts) table (f slot.0))) (Ok (without_at (at us) table slot.0))
      gone_same = (
        _,
        _,
        refl,
        refl,
        moved_with f table ts us same _ _ _ _ _ _ (counter_same f table ts us same)
            (ap (without (f slot.0)) same.entries ∙ without_moved f apart slot.0 (get_or us table no_rows).entries),
      )

      by_kind : (b : Bool) (made : Result (List Value) Code) → Same (cond b (Ok (without_at (at ts) table (f slot.0))) (made >>= with_instead table (moved_slot f slot) (at ts))) (cond b (Ok (without_at (at us) table slot.0)) (made >>= with_instead table slot (at us)))
      by_kind true made = gone_same
      by_kind false made = instead_same made

      one_same : Same (changed_one table columns change (moved_slot f slot) (at ts)) (changed_one table columns change slot (at us))
      one_same =
          subst (λ (row : List Value). Same (cond (deletes change.kind) (Ok (without_at (at ts) table (f slot.0))) (changed_row change.kind columns change.values row >>= with_instead table (moved_slot f slot) (at ts))) (changed_one table columns change slot (at us)))
          (sym (ap (row_of (f slot.0)) same.entries ∙ row_moved f apart slot.0 (get_or us table no_rows).entries))
          (by_kind (deletes change.kind) (changed_row change.kind columns change.values (row_at (at us) table slot.0)))

    -- rows in slots that stand for each other are changed alike
    pub all_same : (slots : List SlotRef) (ts us : List Rows) → AreMoved f table ts us → Same (changed_all table columns change (map (moved_slot f) slots) (at ts)) (changed_all table columns change slots (at us))
    all_same [] ts us same = (ts, us, refl, refl, same)
    all_same (slot ∷ slots) ts us same =
        same_then (changed_one table columns change (moved_slot f slot) (at ts)) (changed_one table columns change slot (at us))
        (changed_all table columns change (map (moved_slot f) slots)) (changed_all table columns change slots)
        (one_same ts us same slot) (all_same slots)
