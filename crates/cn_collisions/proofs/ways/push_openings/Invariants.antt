use Rattle.cn_collisions.proofs.OpeningLemmas.{AreOpened}
use Rattle.cn_collisions.proofs.ways.push_openings.Given as goal

abbrev pub invariant-loop-process : goal.invariant-loop-process
invariant-loop-process l = AreOpened l.view l.fn.low l.fn.high l.fn.start l.process l.tried l.steps.items
