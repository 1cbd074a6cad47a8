use Rattle.std.proofs.Common.{◌≤◌, arith, refl}
use Rattle.std.proofs.lemmas.List.Elements.{All-more}
use Rattle.cn_stocks.specs.Words.{times}
use Rattle.cn_join_find.proofs.ReachLemmas.{all_taken, within_from}
use Rattle.cn_join_find.proofs.reach.is_within.Goals as goal

pub loop-operation-preserved : goal.loop-operation-preserved
loop-operation-preserved c =
    All-more (λ o. times o c.args.word.now ≤ times o c.args.stock.now) c.args.word.now c.loop-operation.operation-index 0 (omega (arith, c.loop-operation-test.true)) c.loop-operation.invariant (omega arith)

pub returns : goal.returns
returns c = (
  λ h. within_from c.args.stock.now c.args.word.now
      (all_taken (λ o. times o c.args.word.now ≤ times o c.args.stock.now) c.loop-operation.operation-index c.args.word.now (omega (arith, c.loop-operation-test.false)) c.loop-operation.invariant),
  λ w. refl,
)
