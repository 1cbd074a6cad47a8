use Rattle.std.proofs.Common.{arith}
use Rattle.cn_choice.proofs.OrderLemmas.Walks.{walk_end}
use Rattle.cn_choice.proofs.reference.witness.seen_pair.Goals as goal

pub returns-in-Some-clause-pair : goal.returns-in-Some-clause-pair
returns-in-Some-clause-pair c = rw c.in-Some.is at
    (walk_end c.args.table.now c.args.choice.now c.args.order.now c.args.process c.loop-p.p-index c.loop-p.state.0 c.loop-p.own_response (omega arith) c.loop-p.invariant.0)

pub returns-in-None-clause-pair : goal.returns-in-None-clause-pair
returns-in-None-clause-pair c = rw c.in-None.is at
    (walk_end c.args.table.now c.args.choice.now c.args.order.now c.args.process c.loop-p.p-index c.loop-p.state.0 c.loop-p.own_response (omega arith) c.loop-p.invariant.0)
