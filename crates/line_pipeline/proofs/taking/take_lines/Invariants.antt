use Rattle.std.proofs.Common.{◌≡◌, ◌-◌, ◌++◌, take}
use Rattle.hs_line.specs.Lines.{whole_lines}
use Rattle.line_pipeline.specs.Live.{behind}
use Rattle.line_pipeline.proofs.taking.take_lines.Given as goal

abbrev pub invariant-loop : goal.invariant-loop
invariant-loop l = (l.lines.items ++ take (l.most - l.counter) (whole_lines l.held) ≡ take l.most (whole_lines l.fn.held))
    × (l.held ≡ behind l.lines.items l.fn.held)
