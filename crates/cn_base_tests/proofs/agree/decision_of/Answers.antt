use Rattle.std.proofs.Common.{arith}
use Rattle.cn_base_tests.proofs.agree.decision_of.Goals as goal

pub decision-requires : goal.decision-requires
decision-requires g c =
    let r = c.requires.of_plan.1 in
    let many = (c.rounds_keep_consensus.ensures.sizes _ _ _ _ _ _ r.sound r.reached).1 in
    let within = c.requires.process in
    omega arith
