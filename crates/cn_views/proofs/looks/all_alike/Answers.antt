use Rattle.std.proofs.Common.{ℕ, arith, length, length-set, ◌∙◌}
use Rattle.cn_unread.specs.Collects.{LookAlike}
use Rattle.cn_outcomes.proofs.Unions.{at_more}
use Rattle.cn_views.proofs.SetLoops.{HasBelow}
use Rattle.cn_views.proofs.looks.all_alike.Goals as goal

pub loop-state-preserved : goal.loop-state-preserved
loop-state-preserved c =
    let t = c.args.table.now in
    let i = c.loop-state.invariant in
    let k = c.loop-state.state in
    record {
      same = at_more (λ (p v : ℕ). HasBelow (LookAlike t c.args.operations.now p) (length t.states) v) 0 c.loop-state.sets k c.states_alike.result
          (omega (arith, i.long, c.loop-state-test.true, c.states-state-end.ensures.range.1)) i.same c.states_alike.ensures;
      long = length-set c.loop-state.sets k c.states_alike.result ∙ i.long;
    }

pub returns-clause-sets : goal.returns-clause-sets
returns-clause-sets c p l = c.loop-state.invariant.same p (omega (arith, l, c.loop-state-test.false, c.states-state-end.ensures.number))
