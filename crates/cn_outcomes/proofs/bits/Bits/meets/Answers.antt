use Rattle.std.proofs.Common.{arith}
use Rattle.cn_outcomes.proofs.BitSets.{shared}
use Rattle.cn_outcomes.proofs.bits.Bits.meets.Goals as goal

pub returns : goal.returns
returns c = rw (← c.self.view_is, ← c.other.view_is) (shared c.self.inside.0 c.other.inside.0 (omega arith))
