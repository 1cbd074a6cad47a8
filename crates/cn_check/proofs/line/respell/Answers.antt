use Rattle.std.proofs.Common.{◌∙◌, arith, refl}
use Rattle.std.proofs.lemmas.List.{length-set}
use Rattle.cn_check.proofs.LineLemmas.{all_spelled_anew, none_spelled, one_spelled_anew}
use Rattle.cn_check.proofs.line.respell.Goals as goal

pub loop-later-init : goal.loop-later-init
loop-later-init c = record { long = refl; spelled = none_spelled c.args.first c.args.list.now c.args.place c.args.text.now }

pub loop-later-preserved : goal.loop-later-preserved
loop-later-preserved c = record {
  long = length-set c.loop-later.text _ _ ∙ c.loop-later.invariant.long;
  spelled = one_spelled_anew c.args.first c.args.list.now c.args.place c.loop-later.later c.args.text.now c.loop-later.text c.requires.small c.loop-later-test.true c.loop-later.invariant.spelled;
}

pub returns : goal.returns
returns c = all_spelled_anew c.args.first c.args.list.now c.args.place c.loop-later.later c.args.text.now c.loop-later.text (omega (arith, c.loop-later-test.false)) c.loop-later.invariant.spelled
