use Rattle.std.proofs.Common.{arith}
use Rattle.cn_stocks.proofs.SplitLemmas.{subset_above}
use Rattle.cn_join_find.proofs.reach.reached.Goals as goal

pub loop-next-init : goal.loop-next-init
loop-next-init c = record {
  larger = λ g b. b;
  next_larger = c.grown-next.ensures.larger;
  reached = λ first r. r;
  fits = c.grown-next.type_inv;
  next_reached = c.grown-next.ensures.reached;
}

pub loop-next-preserved : goal.loop-next-preserved
loop-next-preserved c =
    let i = c.loop-next.invariant in
    record {
      larger = λ g b. i.next_larger g (i.larger g b);
      next_larger = c.grown-next-in-loop-next.ensures.larger;
      reached = λ first r. i.next_reached first (i.reached first r);
      fits = c.grown-next-in-loop-next.type_inv;
      next_reached = c.grown-next-in-loop-next.ensures.reached;
    }

pub loop-next-smaller : goal.loop-next-smaller
loop-next-smaller c =
    let above = subset_above c.loop-next.set c.loop-next.next c.loop-next.invariant.next_larger in
    omega (arith, above, c.loop-next-test.true, c.loop-next.invariant.fits)
