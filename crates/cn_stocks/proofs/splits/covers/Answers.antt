use Rattle.std.proofs.Common.{arith, refl}
use Rattle.cn_stocks.proofs.splits.covers.Goals as goal

pub returns : goal.returns
returns c = (
  λ h g some. c.loop-operation.invariant g (omega (arith, c.requires.stock_is.known g some, c.loop-operation-test.false, c.operations-operation-end.ensures.number)) some,
  λ h. refl,
)
