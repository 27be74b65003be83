use Rattle.std.proofs.Common.{◌≡◌, drop}
use Rattle.find_filter.specs.Filter.{step_of}
use Rattle.find_filter.proofs.filters.passes.Given as goal

abbrev pub invariant-loop-filter : goal.invariant-loop-filter
invariant-loop-filter l = step_of l.row (drop l.filter-index l.filters) ≡ step_of l.row l.filters
