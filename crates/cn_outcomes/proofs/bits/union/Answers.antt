use Rattle.cn_outcomes.proofs.BitSets.{union_set}
use Rattle.cn_outcomes.proofs.bits.union.Goals as goal

pub returns : goal.returns
returns c q = union_set c.args.a c.args.b q
