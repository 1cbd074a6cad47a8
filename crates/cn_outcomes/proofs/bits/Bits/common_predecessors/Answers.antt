use Rattle.cn_outcomes.proofs.BitSets.{common_predecessors_set}
use Rattle.cn_outcomes.proofs.bits.Bits.common_predecessors.Goals as goal

pub returns : goal.returns
returns c = rw (← c.self.view_is, ← c.other.view_is) (common_predecessors_set c.self.inside.0 c.other.inside.0)
