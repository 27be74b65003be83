-- The parts of a batch, item by item.
--     part_ends, part_goes_on, rows_go_on      an item that ends its run, and one that doesn't
--     ends_step, goes_step, rows_step      the same with all that was told before
use Rattle.std.proofs.Common.{◌≡◌, ℕ, Bool, true, false, not, cond, List, [], ◌∷◌, ◌++◌, refl, ap, ap₂, sym, subst, ◌∙◌}
use Rattle.std.proofs.lemmas.Bool.{true≢false, not-true}
use Rattle.request_types.proofs.Ids.{same_id-is}
use Rattle.std.proofs.lemmas.List.{append_assoc, append-nil}
use Rattle.request_types.specs.declared.connections.ConnId.{ConnId}
use Rattle.request_types.specs.declared.batches.Item.{Item}
use Rattle.request_types.specs.declared.batches.ItemKind.{ItemKind}
use Rattle.request_types.specs.declared.batches.Part.{Part}
use Rattle.request_types.specs.Ids.{same_id}
use Rattle.table_rows.specs.Database.{Database}
use Rattle.batch_answers.specs.Answers.{answered, replies_to, after_all}
use Rattle.request_types.specs.Batches.{with_item, runs_of}
use Rattle.batch_answers.specs.Batches.{parts_of, after_runs}
use Rattle.batch_answers.specs.Steps.{ends_run, first_behind}

pub behind_none : (parts : List Part) → first_behind [] parts ≡ parts
behind_none [] = refl
behind_none (part ∷ parts) = refl

-- the run of the first item, and those behind it
headed : (item : Item) (runs : List (ConnId × List ItemKind)) → (kinds : List ItemKind) × (later : List (ConnId × List ItemKind)) × (with_item item runs ≡ (item.conn, kinds) ∷ later)
headed item [] = (item.kind ∷ [], [], refl)
headed item (run ∷ runs) = by_same (same_id item.conn run.0)
  where
    by_same : (b : Bool) → (kinds : List ItemKind) × (later : List (ConnId × List ItemKind)) × (cond b ((item.conn, item.kind ∷ run.1) ∷ runs) ((item.conn, item.kind ∷ []) ∷ run ∷ runs) ≡ (item.conn, kinds) ∷ later)
    by_same true = (item.kind ∷ run.1, runs, refl)
    by_same false = (item.kind ∷ [], run ∷ runs, refl)

-- an item that ends its run stands alone before the others
pub ends_alone : (item : Item) (rest : List Item) → ends_run (item ∷ rest) ≡ true → runs_of (item ∷ rest) ≡ (item.conn, item.kind ∷ []) ∷ runs_of rest
ends_alone item [] ends = refl
ends_alone item (next ∷ later) ends =
    let first = headed next (runs_of later) in
    subst (λ (runs : List (ConnId × List ItemKind)). with_item item runs ≡ (item.conn, item.kind ∷ []) ∷ runs) (sym first.2)
    (rw (not-true (same_id item.conn next.conn) ends) refl)

-- any other stands in the run behind it
pub goes_on : (item : Item) (rest : List Item) → ends_run (item ∷ rest) ≡ false → (kinds : List ItemKind) × (later : List (ConnId × List ItemKind)) × (runs_of rest ≡ (item.conn, kinds) ∷ later) × (runs_of (item ∷ rest) ≡ (item.conn, item.kind ∷ kinds) ∷ later)
goes_on item [] ends = absurd (true≢false ends)
goes_on item (next ∷ later) ends = by_same (same_id item.conn next.conn) refl ends
  where
    by_same : (b : Bool) → same_id item.conn next.conn ≡ b → not b ≡ false → (kinds : List ItemKind) × (rest : List (ConnId × List ItemKind)) × (runs_of (next ∷ later) ≡ (item.conn, kinds) ∷ rest) × (runs_of (item ∷ next ∷ later) ≡ (item.conn, item.kind ∷ kinds) ∷ rest)
    by_same true same no_end =
        let first = headed next (runs_of later) in
        let conn = same_id-is item.conn next.conn same in (
          first.0,
          first.1,
          first.2 ∙ ap (λ (c : ConnId). (c, first.0) ∷ first.1) (sym conn),
          ap (with_item item) first.2 ∙ rw same refl,
        )
    by_same false differ no_end = absurd (true≢false no_end)

module _ (db : Database) (text reply : List ℕ) (item : Item) (rest : List Item) (is : reply ≡ (answered db item.kind).0) where
  -- an item that ends its run ends the part
  pub part_ends : ends_run (item ∷ rest) ≡ true → first_behind text (parts_of db (runs_of (item ∷ rest))) ≡ record { conn = item.conn; text = text ++ reply } ∷ parts_of (answered db item.kind).1 (runs_of rest)
  part_ends ends =
      ap (λ (runs : List (ConnId × List ItemKind)). first_behind text (parts_of db runs)) (ends_alone item rest ends)
      ∙ ap (λ (t : List ℕ). record { conn = item.conn; text = text ++ t } ∷ parts_of (answered db item.kind).1 (runs_of rest)) (append-nil (answered db item.kind).0 ∙ sym is)

  -- and else its reply joins the part
  pub part_goes_on : ends_run (item ∷ rest) ≡ false → first_behind text (parts_of db (runs_of (item ∷ rest))) ≡ first_behind (text ++ reply) (parts_of (answered db item.kind).1 (runs_of rest))
  part_goes_on ends =
      let on = goes_on item rest ends in
      let next = (answered db item.kind).1 in
      let later = replies_to next on.0 in
      ap (λ (runs : List (ConnId × List ItemKind)). first_behind text (parts_of db runs)) on.3
      ∙ ap (λ (t : List ℕ). record { conn = item.conn; text = t } ∷ parts_of (after_all next on.0) on.1)
      (ap (λ (r : List ℕ). text ++ (r ++ later)) (sym is) ∙ sym (append_assoc text reply later))
      ∙ ap (λ (runs : List (ConnId × List ItemKind)). first_behind (text ++ reply) (parts_of next runs)) (sym on.2)

-- the rows that the items leave
pub rows_go_on : (db : Database) (item : Item) (rest : List Item) → after_runs db (runs_of (item ∷ rest)) ≡ after_runs (answered db item.kind).1 (runs_of rest)
rows_go_on db item rest = by_end (ends_run (item ∷ rest)) refl
  where
    by_end : (b : Bool) → ends_run (item ∷ rest) ≡ b → after_runs db (runs_of (item ∷ rest)) ≡ after_runs (answered db item.kind).1 (runs_of rest)
    by_end true ends = ap (after_runs db) (ends_alone item rest ends)
    by_end false ends =
        let on = goes_on item rest ends in
        ap (after_runs db) on.3 ∙ ap (after_runs (answered db item.kind).1) (sym on.2)

-- what a step of a batch makes of the parts, of which those so far and the text of the last one are told
module _ (db after : Database) (text now : List ℕ) (parts more : List Part) (item : Item) (items rest : List Item) (whole : List Part) (cut : items ≡ item ∷ rest) (appended : now ≡ text ++ (answered db item.kind).0) (left : after ≡ (answered db item.kind).1) (told : parts ++ first_behind text (parts_of db (runs_of items)) ≡ whole) where
  pub ends_step : ends_run items ≡ true → (fresh : List ℕ) → fresh ≡ [] → more ≡ parts ++ record { conn = item.conn; text = now } ∷ [] → more ++ first_behind fresh (parts_of after (runs_of rest)) ≡ whole
  ends_step ends fresh empty pushed =
      let later = parts_of after (runs_of rest) in
      let part : Part = record { conn = item.conn; text = now } in
      ap₂ (λ (ps : List Part) (t : List ℕ). ps ++ first_behind t later) pushed empty
      ∙ ap (λ (ps : List Part). (parts ++ part ∷ []) ++ ps) (behind_none later)
      ∙ append_assoc parts (part ∷ []) later
      ∙ ap₂ (λ (t : List ℕ) (d : Database). parts ++ record { conn = item.conn; text = t } ∷ parts_of d (runs_of rest)) appended left
      ∙ ap (λ (ps : List Part). parts ++ ps) (sym (part_ends db text (answered db item.kind).0 item rest refl (ap ends_run (sym cut) ∙ ends)))
      ∙ ap (λ (is : List Item). parts ++ first_behind text (parts_of db (runs_of is))) (sym cut)
      ∙ told

  pub goes_step : ends_run items ≡ false → more ≡ parts → more ++ first_behind now (parts_of after (runs_of rest)) ≡ whole
  goes_step ends same =
      ap (λ (ps : List Part). ps ++ first_behind now (parts_of after (runs_of rest))) same
      ∙ ap₂ (λ (t : List ℕ) (d : Database). parts ++ first_behind t (parts_of d (runs_of rest))) appended left
      ∙ ap (λ (ps : List Part). parts ++ ps) (sym (part_goes_on db text (answered db item.kind).0 item rest refl (ap ends_run (sym cut) ∙ ends)))
      ∙ ap (λ (is : List Item). parts ++ first_behind text (parts_of db (runs_of is))) (sym cut)
      ∙ told

-- and what it makes of the rows
pub rows_step : (db after whole : Database) (item : Item) (items rest : List Item) → items ≡ item ∷ rest → after ≡ (answered db item.kind).1 → after_runs db (runs_of items) ≡ whole → after_runs after (runs_of rest) ≡ whole
rows_step db after whole item items rest cut left told =
    ap (λ (d : Database). after_runs d (runs_of rest)) left ∙ sym (rows_go_on db item rest)
    ∙ ap (λ (is : List Item). after_runs db (runs_of is)) (sym cut) ∙ told
