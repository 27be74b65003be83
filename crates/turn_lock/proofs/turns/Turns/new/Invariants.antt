use Rattle.std.proofs.Common.{◌≡◌, ◌-◌, ◌≤◌, [], vec_len, vec_capacity}
use Rattle.turn_lock.specs.declared.view.Stage.TheVariants.{Deals}
use Rattle.turn_lock.specs.Serial.{starting}
use Rattle.turn_lock.specs.Turns.{fresh_passes}
use Rattle.turn_lock.proofs.turns.Turns.new.Given as goal

abbrev pub invariant-loop-number : goal.invariant-loop-number
invariant-loop-number g l =
    record {
      count : vec_len l.all ≡ l.number;
      room : l.passes ≤ vec_capacity l.all;
      seat : l.dealer.table_id ≡ l.table.shared.table_id;
      view : l.dealer.me ≡ (record (starting g.B.Keeps.stands g.B.Keeps.maker g.B.Keeps.place g.B.Keeps.faults l.dealt) { stage = Deals l.number; passes = l.passes - l.number }, []);
      dealt : l.all.items ≡ fresh_passes l.table.shared.table_id l.dealt.opened.value (g.B.Keeps.faults l.dealt.opened.value) l.number;
    }
