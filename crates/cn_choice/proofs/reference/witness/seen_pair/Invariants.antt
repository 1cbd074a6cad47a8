use Rattle.std.proofs.Common.{◌<◌, IfSome, length}
use Rattle.cn_choice.proofs.OrderLemmas.Walks.{Walked}
use Rattle.cn_choice.proofs.reference.witness.seen_pair.Given as goal

-- the pair so far, and its response is one of the type's
abbrev pub invariant-loop-p : goal.invariant-loop-p
invariant-loop-p l = Walked l.table l.choice l.order l.process l.p-index l.state.0 l.own_response × IfSome l.own_response (λ response. response < length l.table.responses)
