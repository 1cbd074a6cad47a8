use Rattle.std.proofs.Common.{ℕ, ◌≡◌, arith, subst}
use Rattle.std.specs.Prelude.{IsBitSet}
use Rattle.cn_stocks.proofs.MeetingLemmas.{gathered_first}
use Rattle.cn_stocks.proofs.SplitLemmas.{subset_above}
use Rattle.cn_telling.proofs.meetings.component.Goals as goal

pub loop-grown-init : goal.loop-grown-init
loop-grown-init c =
    let start = gathered_first c.args.sets.now c.args.first in record {
      first = λ q h. h;
      kept = c.grow-grown.ensures.kept;
      done = c.grow-grown.ensures.grown;
      gathered = start;
      more = c.grow-grown.ensures.gathered c.args.first start;
      small = omega (arith, c.grow-grown.type_inv);
    }

pub loop-grown-preserved : goal.loop-grown-preserved
loop-grown-preserved c =
    let i = c.loop-grown.invariant in record {
      first = λ q h. i.kept q (i.first q h);
      kept = c.grow-grown-in-loop-grown.ensures.kept;
      done = c.grow-grown-in-loop-grown.ensures.grown;
      gathered = i.more;
      more = c.grow-grown-in-loop-grown.ensures.gathered c.args.first i.more;
      small = omega (arith, c.grow-grown-in-loop-grown.type_inv);
    }

pub loop-grown-smaller : goal.loop-grown-smaller
loop-grown-smaller c = omega (arith, subset_above c.loop-grown.set c.loop-grown.grown c.loop-grown.invariant.kept, c.loop-grown-test.true, c.loop-grown.invariant.small)

pub returns-clause-closed : goal.returns-clause-closed
returns-clause-closed c f q r a b d =
    let same : c.loop-grown.grown ≡ c.loop-grown.set = c.loop-grown-test.false in
    subst (λ (set : ℕ). IsBitSet set r) same (c.loop-grown.invariant.done f q r a b d)
