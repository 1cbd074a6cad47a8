use Rattle.std.proofs.Common.{arith, sym, true≢false}
use Rattle.cn_stocks.proofs.records.some_single.Goals as goal

pub returns : goal.returns
returns c = (
  λ h. absurd (true≢false (sym h)),
  λ f. absurd (c.loop-operation.invariant f.0
      (omega (arith, c.requires.setting.next.stock_is.known f.0 (omega (arith, f.1.once)), c.loop-operation-test.false, c.operations-operation-end.ensures.number)) f.1),
)
