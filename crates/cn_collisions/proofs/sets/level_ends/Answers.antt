use Rattle.std.proofs.Common.{◌≡◌, ℕ, arith, length, subst, Some}
use Rattle.std.specs.Prelude.{slice_get}
use Rattle.cn_stocks.specs.declared.stocks.Stock.{Stock}
use Rattle.cn_stocks.proofs.StockLemmas.{items_of, read_stock}
use Rattle.cn_collisions.specs.declared.word_sets.Ends.{Ends}
use Rattle.cn_stocks.specs.Each.{EachAt}
use Rattle.cn_collisions.specs.WordSets.{IsEnds}
use Rattle.cn_stocks.proofs.EachLemmas.{each_none, each_push}
use Rattle.cn_collisions.proofs.LevelLemmas.{same_at}
use Rattle.cn_collisions.proofs.sets.level_ends.Goals as goal

pub loop-stock-init : goal.loop-stock-init
loop-stock-init c = each_none _ c.in_ok-level.level.items c.in_ok-level.ensures.items

pub stock_ends-requires-clause-setting : goal.stock_ends-requires-clause-setting
stock_ends-requires-clause-setting c =
    let stocks = c.args.stocks.now in
    let i = c.loop-stock.stock-index in
    let s = c.stock-item.result in
    let b = c.requires.beside in
    let at = read_stock stocks i s (omega (arith, c.loop-stock-test.true)) c.stock-item.is in
    record {
      before = b.0;
      stock_is = b.1.stocks_are i s at;
      long = b.1.long i s.operations.items (items_of stocks i s at);
      sets_are = b.2;
    }

pub loop-stock-preserved : goal.loop-stock-preserved
loop-stock-preserved c =
    let stocks = c.args.stocks.now in
    let i = c.loop-stock.stock-index in
    let s = c.stock-item.result in
    let t = c.args.table.now in
    let own = c.in_ok-own.own in
    let at = read_stock stocks i s (omega (arith, c.loop-stock-test.true)) c.stock-item.is in
    let fits : ℕ → Ends → Type 0 = λ i e. (s : Stock) → slice_get stocks i ≡ Some s → IsEnds t c.args.size s.operations.items e in
    each_push fits c.loop-stock.level.items c.push.new.self.items own i c.in_ok-push.ensures.items c.loop-stock.invariant
    (λ r h. same_at (λ x. IsEnds t c.args.size x.operations.items own) stocks i s r at c.in_ok-own.ensures h)

pub returns : goal.returns
returns c =
    let stocks = c.args.stocks.now in
    let t = c.args.table.now in
    let fits : ℕ → Ends → Type 0 = λ i e. (s : Stock) → slice_get stocks i ≡ Some s → IsEnds t c.args.size s.operations.items e in
    let end : c.loop-stock.stock-index ≡ length stocks = omega (arith, c.loop-stock-test.false, c.loop-stock.auto.stock-index-end) in
    subst (λ (k : ℕ). EachAt fits k c.loop-stock.level.items) end c.loop-stock.invariant
