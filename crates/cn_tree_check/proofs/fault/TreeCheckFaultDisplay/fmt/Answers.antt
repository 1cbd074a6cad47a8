use Rattle.std.proofs.Common.{rules, append_assoc}
use Rattle.cn_tree_check.proofs.fault.TreeCheckFaultDisplay.fmt.Goals as goal

pub returns-in-Meets-clause-writes : goal.returns-in-Meets-clause-writes
returns-in-Meets-clause-writes g c = rw c.in-Meets.is (search (rules, append_assoc))
