use Rattle.std.proofs.Common.{[], ◌<◌, ◌∙◌, inl, inr, arith, length, length-set, refl}
use Rattle.cn_stocks.specs.declared.pair_sets.PairSet.{PairSet}
use Rattle.cn_stocks.specs.Pairs.{Has}
use Rattle.cn_stocks.proofs.Steps.{shows_first}
use Rattle.cn_stocks.proofs.StockLemmas.{before_or_behind}
use Rattle.cn_telling.specs.Asking.{AreShownTo}
use Rattle.cn_telling.proofs.ArrayLemmas.{none_at, set_done, set_rest}
use Rattle.cn_telling.proofs.joins.shown_by_each.Goals as goal

pub loop-first-init : goal.loop-first-init
loop-first-init c = record {
  long = refl;
  done = λ f l. absurd (omega (arith, l));
  none = λ f r q l. none_at 8 c.none-none.result c.none-none.ensures f r q;
}

pub loop-first-preserved : goal.loop-first-preserved
loop-first-preserved c =
    let i = c.loop-first.invariant in
    let k = c.loop-first.first in
    let pairs = c.loop-first.pairs in
    let set = c.shown_by.result in
    let none : PairSet = record { states = [] } in
    let room : k < length pairs = omega (arith, i.long, c.loop-first-test.true, c.operations-first-end.ensures.range.1) in
    record {
      long = length-set pairs k set ∙ i.long;
      done = set_done none (λ f s. AreShownTo c.args.asking.now c.args.start f s) pairs k set room c.shown_by.ensures i.done;
      none = λ f r q l. set_rest none (λ f s. ¬ Has s r q) pairs k set (λ f l. i.none f r q l) f l;
    }

pub returns : goal.returns
returns c f r q =
    let i = c.loop-first.invariant in
    let a = c.args.asking.now in
    let stock = c.requires.asking.over.stock_is in
    elim (before_or_behind f c.loop-first.first) [
      | inl l ↦ i.done f l r q
      | inr l ↦ (
        λ h. absurd (i.none f r q l h),
        λ s. absurd (omega (arith, l, stock.known f (shows_first a.setting.table.now c.args.start a.setting.stock.now.operations.items f a.asked r q s), c.loop-first-test.false, c.operations-first-end.ensures.number)),
      )
    ]
