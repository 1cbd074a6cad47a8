use Rattle.std.proofs.Common.{◌<◌, get_or, refl}
use Rattle.std.proofs.lemmas.List.Elements.{All-from_recursion}
use Rattle.cn_proto.specs.Plan.{processes_of}
use Rattle.cn_agree.proofs.Running.{one_more_run}
use Rattle.cn_agree.proofs.schedule.step_all.Goals as goal

pub take_turn-requires-clause-process : goal.take_turn-requires-clause-process
take_turn-requires-clause-process g c =
    All-from_recursion (λ p. p < processes_of c.args.plan.now) c.args.schedule.now c.requires.schedule c.loop-p.p-index 0 c.loop-p-test.true

pub loop-p-preserved : goal.loop-p-preserved
loop-p-preserved g c =
    one_more_run c.args.plan.now c.args.round.now c.args.schedule.now c.loop-p.p-index (get_or c.args.schedule.now c.loop-p.p-index 0) c.loop-p.round c.take_turn.new.round
    c.loop-p-test.true c.requires.schedule refl c.loop-p.invariant c.take_turn.ensures.world
