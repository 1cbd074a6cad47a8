use Rattle.std.proofs.Common.{rules, append_assoc}
use Rattle.cn_unread_number.proofs.bounds.NumberBoundsDisplay.fmt.Goals as goal

pub returns-in-Between-clause-writes : goal.returns-in-Between-clause-writes
returns-in-Between-clause-writes g c = rw c.in-Between.is (search (rules, append_assoc))
