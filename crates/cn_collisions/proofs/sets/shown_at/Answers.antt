use Rattle.std.proofs.Common.{length}
use Rattle.rayon.proofs.ListFacts.{IfOk-then}
use Rattle.cn_stocks.proofs.StockLemmas.{items_of, read_stock}
use Rattle.cn_collisions.specs.WordSets.{IsShown}
use Rattle.cn_stocks.proofs.EachLemmas.{each_read}
use Rattle.cn_collisions.proofs.LevelLemmas.{same_at}
use Rattle.cn_collisions.proofs.sets.shown_at.Goals as goal

pub stock_shown-requires-clause-setting : goal.stock_shown-requires-clause-setting
stock_shown-requires-clause-setting c =
    let level = c.args.level.now in
    let s = c.index-stocks-place.result in
    let is = c.requires.0 in
    let at = read_stock level.stocks.now c.args.place s c.requires.1 c.index-stocks-place.is in
    record {
      before = is.before;
      stock_is = is.beside.stocks_are c.args.place s at;
      long = is.beside.long c.args.place s.operations.items (items_of level.stocks.now c.args.place s at);
      sets_are = is.below;
    }

pub stock_shown-requires-clause-own : goal.stock_shown-requires-clause-own
stock_shown-requires-clause-own c =
    let level = c.args.level.now in
    let s = c.index-stocks-place.result in
    let at = read_stock level.stocks.now c.args.place s c.requires.1 c.index-stocks-place.is in
    each_read _ level.ends.now (length level.stocks.now) c.args.place c.index-ends-place.result c.requires.0.ends c.requires.1 c.index-ends-place.is s at

pub returns : goal.returns
returns c =
    let level = c.args.level.now in
    let s = c.index-stocks-place.result in
    let at = read_stock level.stocks.now c.args.place s c.requires.1 c.index-stocks-place.is in
    IfOk-then c.stock_shown.result _ _ c.stock_shown.ensures (λ own is r h. same_at (λ x. IsShown level.table.now level.size x.operations.items own) level.stocks.now c.args.place s r at is h)
