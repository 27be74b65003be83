use Rattle.std.proofs.Common.{refl}
use Rattle.table_rows.specs.declared.undo.Undo.TheVariants.{Count}
use Rattle.table_rows.specs.Rows.{counter_of}
use Rattle.table_rows.proofs.GoingBack.{goes_none}
use Rattle.change_set.proofs.Back.{reserved_back, change_back}
use Rattle.change_set.proofs.clearing.count_up.Goals as goal

pub returns-then-to-before-clause-back : goal.returns-then-to-before-clause-back
returns-then-to-before-clause-back c = goes_none c.args.tables.now c.args.undo.now.entries

pub returns-in-None-clause-back : goal.returns-in-None-clause-back
returns-in-None-clause-back c = goes_none c.args.tables.now c.args.undo.now.entries

pub returns-in_err-reserve-in-Some-clause-back : goal.returns-in_err-reserve-in-Some-clause-back
returns-in_err-reserve-in-Some-clause-back c = reserved_back c.args.tables.now c.args.tables.now c.args.undo.now.entries c.reserve.new.self.entries refl c.in_err-reserve-in-Some.ensures.entries

pub returns-in_ok-reserve-in-Some-clause-back : goal.returns-in_ok-reserve-in-Some-clause-back
returns-in_ok-reserve-in-Some-clause-back c =
    change_back c.args.tables.now c.raise_counter.new.self c.args.undo.now.entries c.reserve.new.self.entries c.raise_counter.new.undo.entries (Count c.args.table (counter_of c.args.tables.now c.args.table))
    c.in_ok-reserve-in-Some.ensures.entries c.raise_counter.ensures.pushed c.raise_counter.ensures.back
