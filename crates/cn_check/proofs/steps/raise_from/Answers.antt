use Rattle.std.proofs.Common.{◌+◌, arith, get_or}
use Rattle.std.proofs.lemmas.List.{length-set}
use Rattle.cn_check.proofs.StepLemmas.{raise_first, raise_more}
use Rattle.cn_check.proofs.steps.raise_from.Goals as goal

pub loop-later-init : goal.loop-later-init
loop-later-init c = raise_first c.args.list.now c.args.place _ c.requires.place

pub loop-later-preserved : goal.loop-later-preserved
loop-later-preserved c = raise_more c.args.list.now c.loop-later.list c.args.place c.loop-later.later _ (omega (arith, c.loop-later.auto.later)) (omega (arith, c.loop-later-test.true, length-set c.args.list.now c.args.place (get_or c.args.list.now c.args.place 0 + 1))) c.loop-later.invariant
