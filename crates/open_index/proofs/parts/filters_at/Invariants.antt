use Rattle.std.proofs.Common.{◌≡◌, ◌-◌, length}
use Rattle.open_index.specs.Find.{filters_at}
use Rattle.open_index.proofs.Loops.{with_items}
use Rattle.open_index.proofs.parts.filters_at.Given as goal

abbrev pub invariant-loop : goal.invariant-loop
invariant-loop l = with_items l.filters.items (filters_at (length l.tokens - l.counter) l.columns l.rest) ≡ filters_at (length l.tokens) l.columns l.tokens
