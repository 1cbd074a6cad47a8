use Rattle.std.proofs.Common.{arith}
use Rattle.cn_outcomes.proofs.BitSets.{member_below}
use Rattle.cn_outcomes.proofs.MemberLemmas.{members_contain}
use Rattle.cn_outcomes.proofs.bits.Bits.iter.Goals as goal

pub returns-clause-same : goal.returns-clause-same
returns-clause-same c = rw (← c.self.view_is) (λ q. members_contain c.self.inside.0 q (omega arith))

pub returns-clause-below : goal.returns-clause-below
returns-clause-below c = rw (← c.self.view_is) (λ q b. member_below 16 c.self.inside.0 q (omega arith) b)
