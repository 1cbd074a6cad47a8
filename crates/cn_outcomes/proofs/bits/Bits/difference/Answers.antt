use Rattle.std.proofs.Common.{arith}
use Rattle.cn_outcomes.proofs.BitSets.{difference_set}
use Rattle.cn_outcomes.proofs.bits.Bits.difference.Goals as goal

pub returns : goal.returns
returns c = rw (← c.self.view_is, ← c.other.view_is) (λ q. difference_set c.self.inside.0 c.other.inside.0 q (omega arith) (omega arith))
