use Rattle.std.proofs.Common.{◌<◌, [], refl, arith}
use Rattle.cn_proto.specs.Plan.{processes_of}
use Rattle.cn_agree.proofs.Running.{one_more_begun}
use Rattle.cn_agree.proofs.schedule.begin_all.Goals as goal

pub loop-p-preserved : goal.loop-p-preserved
loop-p-preserved g c =
    let many = c.requires.count in
    let less = c.loop-p-test.true in
    let within : c.loop-p.p < processes_of c.args.plan.now = omega arith in
    one_more_begun c.args.plan.now c.args.inputs.now c.loop-p.p c.loop-p.p c.index-inputs-p.result c.loop-p.round c.begin.new.self
    many within c.loop-p.invariant refl c.index-inputs-p.is c.begin.ensures.world (c.begin.ensures.of_plan c.args.plan.now [] c.loop-p.invariant.round)
