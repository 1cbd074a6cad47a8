use Rattle.std.proofs.Common.{◌+◌, ◌-◌, arith}
use Rattle.cn_shortest.proofs.MostProcesses.{cost_for, none_for, none_from}
use Rattle.cn_shortest.proofs.greatest.greatest_in.Goals as goal

pub loop-less-preserved : goal.loop-less-preserved
loop-less-preserved c t allowed are =
    let most = c.args.most in
    let n = most - c.loop-less.less in
    none_from t allowed most n (most - (c.loop-less.less + 1)) (omega arith) (c.loop-less.invariant t allowed are) (none_for t allowed most n c.cost_in.result c.in_default.is (c.cost_in.ensures.cost t allowed are))

pub returns-in-Some-clause-cost : goal.returns-in-Some-clause-cost
returns-in-Some-clause-cost c t allowed are =
    let most = c.args.most in
    let n = most - c.loop-less.less in
    cost_for t allowed most n c.in-Some.cost (omega (arith, c.loop-less-test.true)) (omega arith) (c.loop-less.invariant t allowed are) (c.in-Some.ensures.cost t allowed are)

pub returns-clause-cost : goal.returns-clause-cost
returns-clause-cost c t allowed are m two few = c.loop-less.invariant t allowed are m (omega (arith, two, c.loop-less-test.false)) few
