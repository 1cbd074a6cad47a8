use Rattle.cn_proto.proofs.PlanLemmas.{judged_known}
use Rattle.cn_proto.proofs.plan.Plan.judged_pairs.Goals as goal

pub returns-clause-known : goal.returns-clause-known
returns-clause-known c = rw (c.pairs.ensures, c.index.ensures, ← c.self.view_is) (judged_known _ c.self.invariant.0 c.args.role _ (rw (← c.self.view_is) at c.requires))
