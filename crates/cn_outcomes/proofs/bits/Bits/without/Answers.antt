use Rattle.std.proofs.Common.{arith}
use Rattle.cn_outcomes.proofs.BitSets.{cleared_is}
use Rattle.cn_outcomes.proofs.bits.Bits.without.Goals as goal

pub returns : goal.returns
returns c = rw (← c.self.view_is) (cleared_is c.self.inside.0 c.args.number c.requires (omega arith))
