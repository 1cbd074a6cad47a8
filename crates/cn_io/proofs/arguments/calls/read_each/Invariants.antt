use Rattle.std.proofs.Common.{◌≡◌, map, drop}
use Rattle.cn_table.specs.Draft.{all_some}
use Rattle.cn_table.proofs.Lists.{with_front}
use Rattle.cn_io.specs.Arguments.Calls.{process_calls}
use Rattle.cn_io.proofs.arguments.calls.read_each.Given as goal

abbrev pub invariant-loop-piece : goal.invariant-loop-piece
invariant-loop-piece l =
    with_front (map (λ list. list.items) l.calls.items) (all_some (map (λ piece. process_calls piece.now) (drop l.piece-index l.pieces)))
    ≡ all_some (map process_calls (map (λ piece. piece.now) l.pieces))
