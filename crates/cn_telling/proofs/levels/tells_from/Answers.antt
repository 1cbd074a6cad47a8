use Rattle.std.proofs.Common.{arith}
use Rattle.cn_stocks.proofs.RecordLemmas.{some_left}
use Rattle.cn_stocks.proofs.StockLemmas.{greatest_in}
use Rattle.cn_telling.proofs.TellLemmas.{apart_tells, tells_apart}
use Rattle.cn_telling.proofs.levels.tells_from.Goals as goal

pub fall_apart-requires-clause-known : goal.fall_apart-requires-clause-known
fall_apart-requires-clause-known c =
    let s = c.args.setting.now in
    let stock = c.requires.setting.1.stock_is in
    let known = stock.known s.stock.now.greatest (greatest_in s.stock.now.operations.items s.stock.now.greatest stock.greatest c.requires.some) in
    omega (arith, known, c.operations-operations.ensures.number, c.operations-operations.ensures.range.1)

pub fall_apart-requires-clause-some : goal.fall_apart-requires-clause-some
fall_apart-requires-clause-some c =
    let s = c.args.setting.now in
    let items = s.stock.now.operations.items in
    some_left s.table.now c.args.start items c.left_states-sets.result c.left_states-sets.ensures s.stock.now.greatest
    (greatest_in items s.stock.now.greatest c.requires.setting.1.stock_is.greatest c.requires.some)

pub returns : goal.returns
returns c =
    let s = c.args.setting.now in
    let items = s.stock.now.operations.items in
    let sets = c.left_states-sets.result in
    let left = c.left_states-sets.ensures in (
      λ h. apart_tells s.table.now c.args.start items sets left (c.fall_apart.ensures.0 h),
      λ r. c.fall_apart.ensures.1 (tells_apart s.table.now c.args.start items sets left r),
    )
