use Rattle.std.proofs.Common.{[], arith}
use Rattle.cn_base_tests.proofs.Beginning.{none_begun, one_more_begun}
use Rattle.cn_base_tests.proofs.agree.begin_all.Goals as goal

pub loop-p-init : goal.loop-p-init
loop-p-init g c = none_begun c.args.plan.now c.in_ok-round.round c.in_ok-round.ensures.world c.in_ok-round.ensures.of_plan

pub begin-requires-clause-process : goal.begin-requires-clause-process
begin-requires-clause-process g c =
    let r = c.loop-p.invariant.round in
    let many = (c.rounds_keep_consensus.ensures.sizes _ _ _ _ _ _ r.sound r.reached).1 in
    let number = c.processes-p-end.ensures.number in
    let less = c.loop-p-test.true in
    omega arith

pub loop-p-preserved : goal.loop-p-preserved
loop-p-preserved g c =
    let r = c.loop-p.invariant.round in
    let many = (c.rounds_keep_consensus.ensures.sizes _ _ _ _ _ _ r.sound r.reached).1 in
    let number = c.processes-p-end.ensures.number in
    let less = c.loop-p-test.true in
    one_more_begun c.args.plan.now c.loop-p.p c.index-inputs-from.result c.loop-p.round c.begin.new.self (omega arith)
    c.loop-p.invariant c.begin.ensures.world (c.begin.ensures.of_plan c.args.plan.now [] r)
