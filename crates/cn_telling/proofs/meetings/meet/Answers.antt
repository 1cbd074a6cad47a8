use Rattle.std.proofs.Common.{arith}
use Rattle.cn_outcomes.proofs.BitSets.{shared}
use Rattle.cn_telling.proofs.meetings.meet.Goals as goal

pub returns : goal.returns
returns c = shared c.args.a c.args.b (omega arith)
