use Rattle.std.proofs.Common.{arith}
use Rattle.cn_join_find.proofs.ReachLemmas.{read_contained}
use Rattle.cn_join_find.proofs.reach.grown.Goals as goal

pub loop-join-preserved : goal.loop-join-preserved
loop-join-preserved c =
    let i = c.loop-join.invariant in
    let has = read_contained c.args.joins.now c.loop-join.join-index c.join-item.result (omega (arith, c.loop-join-test.true)) c.join-item.is in
    record {
      larger = λ g b. c.with_join-grown.ensures.larger g (i.larger g b);
      reached = λ first before chosen keeps.
          c.with_join-grown.ensures.joined chosen first (λ within. keeps c.join-item.result has within) (i.reached first before chosen keeps);
    }
