use Rattle.std.specs.Prelude.{IsBitSet}
use Rattle.cn_stocks.proofs.LastingLemmas.Closing.{single_first}
use Rattle.cn_stocks.proofs.lasting.onward.single_first.Goals as goal

pub returns : goal.returns
returns c q =
    let all = single_first c.args.table.now c.args.start c.args.many c.args.single (IsBitSet c.only.result) c.only.ensures.same q in
    (λ h. all.0 ((c.first_onward.ensures.same q).0 h), λ h. (c.first_onward.ensures.same q).1 (all.1 h))
