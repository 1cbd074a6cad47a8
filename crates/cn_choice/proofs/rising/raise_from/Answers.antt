use Rattle.std.proofs.Common.{arith, length-set}
use Rattle.cn_choice.proofs.ListLemmas.NextLists.{raise_first, raise_more}
use Rattle.cn_choice.proofs.rising.raise_from.Goals as goal

pub loop-later-init : goal.loop-later-init
loop-later-init c = raise_first c.args.list.now c.args.place c.args.value c.args.behind c.requires

pub loop-later-preserved : goal.loop-later-preserved
loop-later-preserved c =
    raise_more c.args.list.now c.loop-later.list c.args.place c.loop-later.later c.args.value c.args.behind (omega (arith, c.loop-later.auto.later))
    (omega (arith, c.loop-later-test.true, length-set c.args.list.now c.args.place c.args.value)) c.loop-later.invariant
