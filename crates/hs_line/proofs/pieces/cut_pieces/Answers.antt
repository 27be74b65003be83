use Rattle.std.proofs.Common.{◌≡◌, ℕ, ◌+◌, ◌-◌, ◌<◌, List, ◌++◌, length, take, sym, ap, ◌∙◌, arith}
use Rattle.hs_line.specs.declared.pieces.Piece.{Piece}
use Rattle.hs_line.specs.Lines.{lines_of, rest_of}
use Rattle.hs_line.specs.Pieces.{stream_of, held_after, IsDrained}
use Rattle.hs_line.proofs.PieceLemmas.{stream_of-next, held_after-next, at_place, IsDrained-at, rest_of-step, lines_of-step, count-step, left-count, none-left}
use Rattle.hs_line.proofs.pieces.cut_pieces.Goals as goal

pub returns-then-room-len-clause-stops : goal.returns-then-room-len-clause-stops
returns-then-room-len-clause-stops c =
    let at = at_place c.args.pieces.now c.loop-pushed.pushed c.index-pieces-pushed.result (omega arith) c.index-pieces-pushed.is in
    rw at (omega arith)

-- what is held after the piece
held_now : (c : goal.In_ok-take_lines) → c.push.new.self ≡ c.loop-pushed.held ++ c.index-pieces-pushed.result.bytes
held_now c = c.push.ensures ∙ ap (λ (l : List ℕ). c.loop-pushed.held ++ l) c.deref.ensures

left : (c : goal.In_ok-take_lines) → length (lines_of c.take_lines.new.held) ≡ length (lines_of (c.loop-pushed.held ++ c.index-pieces-pushed.result.bytes)) - c.index-pieces-pushed.result.takes
left c =
    left-count c.loop-pushed.lines.items (lines_of c.push.new.self) c.take_lines.new.lines.items (lines_of c.take_lines.new.held) c.index-pieces-pushed.result.takes c.take_lines.ensures.lines c.in_ok-take_lines.ensures.count
    ∙ ap (λ (l : List ℕ). length (lines_of l) - c.index-pieces-pushed.result.takes) (held_now c)

held_count : (c : goal.In_ok-take_lines) → length (lines_of c.take_lines.new.held) ≡ held_after 0 (take (c.loop-pushed.pushed + 1) c.args.pieces.now)
held_count c =
    let pieces : List Piece = c.args.pieces.now in
    let piece : Piece = c.index-pieces-pushed.result in
    let i : ℕ = c.loop-pushed.pushed in
    let within : i < length pieces = omega arith in
    let brought = count-step (stream_of (take i pieces)) c.loop-pushed.held piece.bytes c.loop-pushed.invariant.1 in
    omega (arith, left c, brought, held_after-next pieces i piece within c.index-pieces-pushed.is, c.loop-pushed.invariant.2)

pub loop-pushed-preserved : goal.loop-pushed-preserved
loop-pushed-preserved c =
    let pieces : List Piece = c.args.pieces.now in
    let piece : Piece = c.index-pieces-pushed.result in
    let i : ℕ = c.loop-pushed.pushed in
    let before : List ℕ = stream_of (take i pieces) in
    let within : i < length pieces = omega arith in
    let now : stream_of (take (i + 1) pieces) ≡ before ++ piece.bytes = stream_of-next pieces i piece within c.index-pieces-pushed.is in
    let held : c.push.new.self ≡ c.loop-pushed.held ++ piece.bytes = held_now c in (
      c.take_lines.ensures.lines ∙ ap (λ (l : List ℕ). c.loop-pushed.lines.items ++ lines_of l) held
          ∙ lines_of-step before c.loop-pushed.held piece.bytes c.loop-pushed.invariant.1 c.loop-pushed.lines.items c.loop-pushed.invariant.0 ∙ ap lines_of (sym now),
      c.take_lines.ensures.rest ∙ ap rest_of held ∙ rest_of-step before c.loop-pushed.held piece.bytes c.loop-pushed.invariant.1 ∙ ap rest_of (sym now),
      held_count c,
      λ each.
          let none : length (lines_of c.loop-pushed.held) ≡ 0 = ap length (c.loop-pushed.invariant.3 each) in
          let asked : IsDrained piece = IsDrained-at pieces i piece within c.index-pieces-pushed.is each in
          let brought = count-step before c.loop-pushed.held piece.bytes c.loop-pushed.invariant.1 in
          none-left (lines_of c.take_lines.new.held) (omega (arith, left c, brought, none, asked)),
    )
