use Rattle.std.proofs.Common.{sym, subst}
use Rattle.cn_proto.specs.Plan.{processes_of}
use Rattle.cn_agree.specs.Beginning.{AllHaveBegun}
use Rattle.cn_agree.specs.Rounds.{RunsBy}
use Rattle.cn_agree.specs.World.{World}
use Rattle.cn_base_tests.proofs.agree.replay.Goals.{then-is_none, else-is_none}
use Rattle.cn_base_tests.proofs.agree.replay.Goals as goal

pub loop-p-preserved : goal.loop-p-preserved
loop-p-preserved g c =
    let T : World _ → Type 0 = λ w. RunsBy c.args.plan.now w × AllHaveBegun (processes_of c.args.plan.now) w in
    elim c.if-is_none.branch [
      | then-is_none w ↦ subst T (sym w.round-is) (w.take_step.ensures.of_plan, w.take_step.ensures.begun)
      | else-is_none w ↦ subst T (sym w.round-is) c.loop-p.invariant
    ]
