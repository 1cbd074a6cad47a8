use Rattle.cn_table.proofs.Lists.{front_first}
use Rattle.cn_io.specs.Arguments.Calls.{process_calls}
use Rattle.cn_io.proofs.arguments.calls.read_each.Goals as goal

pub loop-piece-init : goal.loop-piece-init
loop-piece-init c = rw c.new-calls.ensures.items (front_first process_calls (λ piece. piece.now) c.args.pieces.now)
