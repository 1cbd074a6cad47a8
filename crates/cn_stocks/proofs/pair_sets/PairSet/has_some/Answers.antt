use Rattle.std.proofs.Common.{arith, get_or}
use Rattle.cn_outcomes.proofs.BitSets.{shared}
use Rattle.cn_stocks.proofs.pair_sets.PairSet.has_some.Goals as goal

pub returns : goal.returns
returns c = shared (get_or c.args.self.now.states c.args.response 0) c.args.states (omega arith)
