use Rattle.std.proofs.Common.{◌++◌, ◌∙◌, List, sym}
use Rattle.std.proofs.lemmas.List.{at_drop_more}
use Rattle.hs_token.specs.Spelling.{behind_tabs}
use Rattle.hs_token.proofs.ReplyLemmas.{extends_more}
use Rattle.table_rows.specs.declared.slot_ref.SlotRef.{SlotRef}
use Rattle.find_scan.specs.Show.{rows_tokens}
use Rattle.find_scan.specs.Rendering.{rows_at}
use Rattle.find_scan.proofs.Shown.{row_written}
use Rattle.find_scan.proofs.replies.push_rows.Goals as goal

pub loop-slot-preserved : goal.loop-slot-preserved
loop-slot-preserved c = record {
  written =
      row_written c.args.tables.now c.args.table c.args.columns.now c.loop-slot.out.items c.push_row.new.out.items c.row.result.now _ _ c.in_ok-push_row.ensures.ok c.row.ensures
      ∙ sym (at_drop_more (λ (slots : List SlotRef). c.loop-slot.out.items ++ behind_tabs (rows_tokens c.args.columns.now (rows_at c.args.tables.now c.args.table slots))) c.args.slots.now c.loop-slot.slot-index _ c.loop-slot-test.true)
      ∙ c.loop-slot.invariant.written;
  front = extends_more c.args.out.now.items c.loop-slot.out.items c.push_row.new.out.items c.loop-slot.invariant.front (_, c.in_ok-push_row.ensures.ok);
}
