use Rattle.cn_lives.specs.Plans.{AreTeamsOf}
use Rattle.cn_lives.proofs.plan.teams_of.Given as goal

abbrev pub invariant-loop-state : goal.invariant-loop-state
invariant-loop-state l = AreTeamsOf l.set l.state l.teams.items
