use Rattle.std.proofs.Common.{◌+◌, arith, length}
use Rattle.std.proofs.lemmas.Option.{slice_get_within}
use Rattle.cn_collisions.proofs.StandLemmas.{has_link, less_stands, stock_within}
use Rattle.cn_collisions.proofs.sets.Sets.less.Goals as goal

pub index-level-requires : goal.index-level-requires
index-level-requires c =
    let s = c.args.self.now in
    let stands = c.requires.stock.1 in
    omega (arith, slice_get_within s.stocks.items c.args.size stands.0 stands.1, s.stocks.ok.0)

pub index-stock-requires : goal.index-stock-requires
index-stock-requires c =
    let s = c.args.self.now in
    omega (
      arith,
      stock_within (length s.table.now.operations)
          (s.n + 1) s.stocks.items c.requires.sets.levels c.args.size c.args.place c.requires.stock.0 c.index-level.result.now c.requires.stock.1 c.index-level.ensures,
      c.index-level.result.now.list.ok.0,
    )

pub returns-in-Some : goal.returns-in-Some
returns-in-Some c stock stands =
    let s = c.args.self.now in
    less_stands (length s.table.now.operations) (s.n + 1) s.stocks.items c.requires.sets.levels c.args.size c.args.place stock c.index-level.result.now c.index-stock.result.now
    stands c.index-level.ensures c.index-stock.ensures
    c.args.operation.0 c.in-Some.less c.in-Some.is

pub unreachable-requires : goal.unreachable-requires
unreachable-requires c =
    let s = c.args.self.now in
    has_link (length s.table.now.operations)
    (s.n + 1) s.stocks.items c.requires.sets.levels c.args.size c.args.place c.requires.stock.0 c.index-level.result.now c.index-stock.result.now c.requires.stock.1
    c.index-level.ensures c.index-stock.ensures
    c.args.operation.0 c.requires.stock.2 c.in_default.not-Some
