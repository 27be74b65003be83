use Rattle.std.proofs.Common.{◌≡◌, ℕ, List, [], ◌∷◌, ◌++◌, ◌+◌, drop, refl, ap, ap₂, sym, subst, ◌∙◌}
use Rattle.std.specs.List.{AllByRecursion}
use Rattle.std.proofs.lemmas.List.{drop_more}
use Rattle.request_types.specs.declared.batches.Item.{Item}
use Rattle.request_types.specs.declared.batches.Part.{Part}
use Rattle.table_rows.specs.Database.{database_of}
use Rattle.request_types.specs.Batches.{runs_of}
use Rattle.request_types.specs.Fits.{ItemFits}
use Rattle.batch_answers.specs.Batches.{parts_of, after_runs}
use Rattle.batch_answers.specs.Steps.{first_behind}
use Rattle.table_rows.proofs.GoingBack.{goes_schema, goes_none, goes_then}
use Rattle.batch_answers.proofs.Runs.{behind_none, ends_step, goes_step, rows_step}
use Rattle.batch_answers.proofs.batches.run_all.Goals as goal
use Rattle.batch_answers.proofs.batches.run_all.Goals.{then-ends_run+in_ok-push, else-ends_run}

pub loop-place-init : goal.loop-place-init
loop-place-init c =
    let all = parts_of (database_of c.args.tables.now) (runs_of c.args.items.now) in
    record {
      parts = ap₂ (λ (parts : List Part) (text : List ℕ). parts ++ first_behind text all) c.new-parts.ensures c.new-text.ensures.items ∙ behind_none all;
      rows = refl;
      schema = c.requires.schema;
      fits = c.requires.items;
      back = goes_none c.args.tables.now c.args.undo.now.entries;
    }

pub returns-in_err-answer-clause-back : goal.returns-in_err-answer-clause-back
returns-in_err-answer-clause-back c =
    goes_then c.args.tables.now c.loop-place.tables c.answer.new.tables c.args.undo.now.entries c.loop-place.undo.entries c.answer.new.undo.entries c.loop-place.invariant.back c.answer.ensures.back

pub returns-in_err-push-clause-back : goal.returns-in_err-push-clause-back
returns-in_err-push-clause-back c =
    goes_then c.args.tables.now c.loop-place.tables c.answer.new.tables c.args.undo.now.entries c.loop-place.undo.entries c.answer.new.undo.entries c.loop-place.invariant.back c.answer.ensures.back

pub loop-place-preserved : goal.loop-place-preserved
loop-place-preserved c =
    let before = database_of c.loop-place.tables in
    let after = database_of c.answer.new.tables in
    let item = c.index-items-place.result in
    let items = drop c.loop-place.place c.args.items.now in
    let rest = drop (c.loop-place.place + 1) c.args.items.now in
    let cut : items ≡ item ∷ rest = drop_more c.args.items.now c.loop-place.place item c.loop-place-test.true ∙ ap (λ (x : Item). x ∷ rest) (sym c.index-items-place.is) in
    let whole = parts_of (database_of c.args.tables.now) (runs_of c.args.items.now) in
    let rows = rows_step before after (after_runs (database_of c.args.tables.now) (runs_of c.args.items.now)) item items rest cut c.in_ok-answer.ensures.rows c.loop-place.invariant.rows in
    let schema = c.loop-place.invariant.schema ∙ sym (goes_schema c.loop-place.tables c.answer.new.tables c.loop-place.undo.entries c.answer.new.undo.entries c.in_ok-answer.ensures.back) in
    let fits = (subst (AllByRecursion (ItemFits c.args.schema.now)) cut c.loop-place.invariant.fits).1 in
    let back = goes_then c.args.tables.now c.loop-place.tables c.answer.new.tables c.args.undo.now.entries c.loop-place.undo.entries c.answer.new.undo.entries c.loop-place.invariant.back c.answer.ensures.back in
    elim c.if-ends_run.branch [
      | then-ends_run+in_ok-push w ↦ record {
        parts =
            rw (w.parts-is, w.text-is)
            (ends_step before after c.loop-place.text.items c.answer.new.out.items c.loop-place.parts w.push.new.self item items rest whole cut c.in_ok-answer.ensures.reply c.in_ok-answer.ensures.rows c.loop-place.invariant.parts
            (sym c.ends_run.ensures ∙ w.if-ends_run.true) w.replace.new.dest.items
            (ap (λ v. v.items) w.replace.ensures.after ∙ w.new.ensures.items)
            (w.in_ok-push.ensures.ok ∙ ap (λ (text : List ℕ). c.loop-place.parts ++ record { conn = item.conn; text = text } ∷ []) (w.of_vec-text.ensures ∙ ap (λ v. v.items) w.replace.ensures.value)));
        rows = rows;
        schema = schema;
        fits = fits;
        back = back;
      }
      | else-ends_run w ↦ record {
        parts =
            rw (w.parts-is, w.text-is)
            (goes_step before after c.loop-place.text.items c.answer.new.out.items c.loop-place.parts c.loop-place.parts item items rest whole cut c.in_ok-answer.ensures.reply c.in_ok-answer.ensures.rows c.loop-place.invariant.parts
            (sym c.ends_run.ensures ∙ w.if-ends_run.false) refl);
        rows = rows;
        schema = schema;
        fits = fits;
        back = back;
      }
    ]
