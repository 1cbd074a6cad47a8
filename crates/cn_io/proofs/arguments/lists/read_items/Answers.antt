use Rattle.cn_table.proofs.Lists.{front_first}
use Rattle.cn_io.proofs.arguments.lists.read_items.Goals as goal

pub loop-piece-init : goal.loop-piece-init
loop-piece-init g c = rw c.new-items.ensures.items (front_first g.T.Item.item_of (λ piece. piece.now) c.args.pieces.now)
