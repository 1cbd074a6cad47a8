use Rattle.cn_outcomes.proofs.BitSets.{with_set}
use Rattle.cn_outcomes.proofs.bits.with.Goals as goal

pub returns : goal.returns
returns c q = with_set c.args.set c.args.number q c.requires
