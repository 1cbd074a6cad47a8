use Rattle.cn_outcomes.proofs.BitSets.{union_set}
use Rattle.cn_outcomes.proofs.bits.Bits.union.Goals as goal

pub returns : goal.returns
returns c = rw (← c.self.view_is, ← c.other.view_is) (union_set c.self.inside.0 c.other.inside.0)
