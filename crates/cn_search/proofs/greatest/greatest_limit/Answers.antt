use Rattle.std.proofs.Common.{◌≤◌, length, arith}
use Rattle.cn_search.proofs.LimitLemmas.{least_taken}
use Rattle.cn_search.proofs.greatest.greatest_limit.Goals as goal

pub returns : goal.returns
returns c =
    let t = c.args.table.now in
    let few_states : length t.states ≤ 16 = omega (arith, c.states-states.ensures.number, c.states-states.ensures.range.1) in
    let few : length t.operations ≤ 8 = omega (arith, c.operations-operations.ensures.number, c.operations-operations.ensures.range.1) in
    record {
      taken = least_taken (length t.states) (length t.operations) few_states few (c.choices_by_formula.ensures (length t.states) (length t.operations) 2
          (omega (arith, c.operations-operations.ensures.number, c.operations-operations.ensures.range.0)) (omega arith));
      greatest = λ more above. c.loop-less.invariant more (omega arith);
    }
