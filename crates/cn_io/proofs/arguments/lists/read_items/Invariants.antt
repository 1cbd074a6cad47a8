use Rattle.std.proofs.Common.{◌≡◌, map, drop}
use Rattle.cn_table.specs.Draft.{all_some}
use Rattle.cn_table.proofs.Lists.{with_front}
use Rattle.cn_io.proofs.arguments.lists.read_items.Given as goal

abbrev pub invariant-loop-piece : goal.invariant-loop-piece
invariant-loop-piece g l =
    with_front l.items.items (all_some (map (λ piece. g.T.Item.item_of piece.now) (drop l.piece-index l.pieces)))
    ≡ all_some (map g.T.Item.item_of (map (λ piece. piece.now) l.pieces))
