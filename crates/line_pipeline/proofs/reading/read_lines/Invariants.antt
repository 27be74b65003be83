use Rattle.std.proofs.Common.{◌≡◌, ◌++◌, drop, map}
use Rattle.row_types.specs.Valid.{IsValid}
use Rattle.open_index.specs.Fits.{HandlesFit}
use Rattle.line_pipeline.specs.Live.{kinds_of, left_by, item_of}
use Rattle.line_pipeline.proofs.reading.read_lines.Given as goal

abbrev pub invariant-loop-line : goal.invariant-loop-line
invariant-loop-line l =
    let schema = l.reader.schema.now in
    let port = l.reader.port in
    (l.items ++ map (item_of l.reader.conn) (kinds_of schema port l.handles l.auth (drop l.line-index l.lines))
    ≡ l.fn.items ++ map (item_of l.reader.conn) (kinds_of schema port l.fn.handles l.fn.auth l.lines))
    × (left_by schema port l.handles l.auth (drop l.line-index l.lines) ≡ left_by schema port l.fn.handles l.fn.auth l.lines)
    × (IsValid schema → HandlesFit schema l.fn.handles → HandlesFit schema l.handles)
