use Rattle.cn_base_tests.proofs.Beginning.{HasBegunTo}
use Rattle.cn_base_tests.proofs.agree.begin_all.Given as goal

abbrev pub invariant-loop-p : goal.invariant-loop-p
invariant-loop-p g l = HasBegunTo l.plan l.p l.round
