use Rattle.cn_outcomes.specs.Twins.{AreTwinLinks}
use Rattle.cn_outcomes.proofs.twins.links.Given as goal

abbrev pub invariant-loop-process : goal.invariant-loop-process
invariant-loop-process l = AreTwinLinks l.choice l.links
