use Rattle.std.proofs.Common.{arith, sym}
use Rattle.cn_changes.specs.declared.pairs.TheConstants.{MOST_PAIRS}
use Rattle.cn_changes.proofs.Cutting.{cut_none}
use Rattle.cn_changes.proofs.pairs.front_of.Goals as goal

pub returns-then-pairs-le-MOST_PAIRS : goal.returns-then-pairs-le-MOST_PAIRS
returns-then-pairs-le-MOST_PAIRS c = sym (cut_none MOST_PAIRS c.args.pairs.now (omega (arith, c.if-pairs-le-MOST_PAIRS.true)))
