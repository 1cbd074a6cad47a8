use Rattle.std.specs.Prelude.{IsBitSet}
use Rattle.cn_stocks.proofs.LastingLemmas.Closing.{many_first}
use Rattle.cn_stocks.proofs.lasting.onward.many_first.Goals as goal

pub returns : goal.returns
returns c q =
    many_first c.args.table.now c.args.start c.args.many c.args.single (IsBitSet c.only-from.result) (IsBitSet c.onward-alone.result) (IsBitSet c.first_onward-begun.result)
    (IsBitSet c.first_onward-mixed.result) (IsBitSet c.union.result)
    c.only-from.ensures.same c.onward-alone.ensures.same c.first_onward-begun.ensures.same c.first_onward-mixed.ensures.same c.union.ensures q
