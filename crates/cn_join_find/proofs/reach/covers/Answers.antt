use Rattle.std.proofs.Common.{arith, get_or, refl}
use Rattle.std.specs.Prelude.{IsBitSet}
use Rattle.cn_stocks.proofs.Times.{times_of_place}
use Rattle.cn_join_find.proofs.ReachLemmas.{all_taken, each_in}
use Rattle.cn_join_find.proofs.reach.covers.Goals as goal

pub contains-requires : goal.contains-requires
contains-requires c =
    let stock = c.args.stock.now in
    let i = c.loop-operation.operation-index in
    omega (arith, c.requires (get_or stock i 0) (times_of_place stock i (omega (arith, c.loop-operation-test.true))), c.operations-operations.ensures.number, c.operations-operations.ensures.range.1)

pub returns : goal.returns
returns c = (
  λ h g some. each_in (λ o. IsBitSet c.args.set o) c.args.stock.now
      (all_taken (λ o. IsBitSet c.args.set o) c.loop-operation.operation-index c.args.stock.now (omega (arith, c.loop-operation-test.false)) c.loop-operation.invariant) g some,
  λ w. refl,
)
