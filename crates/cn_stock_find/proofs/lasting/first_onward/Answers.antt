use Rattle.std.specs.Prelude.{IsBitSet}
use Rattle.cn_stocks.proofs.LastingLemmas.Closing.{first_onward}
use Rattle.cn_stock_find.proofs.lasting.first_onward.Goals as goal

pub returns-clause-same : goal.returns-clause-same
returns-clause-same c q =
    let moved = first_onward c.args.table.now c.args.many.0 c.args.first.0 (IsBitSet c.args.from) (IsBitSet c.image.result) c.image.ensures.same q in
    (λ h. moved.0 ((c.onward.ensures.same q).0 h), λ h. (c.onward.ensures.same q).1 (moved.1 h))
