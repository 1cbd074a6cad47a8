use Rattle.std.proofs.Common.{arith}
use Rattle.cn_collisions.proofs.StandLemmas.{row_fits, row_within}
use Rattle.cn_collisions.proofs.sets.Sets.at.Goals as goal

pub bounds-sets-size : goal.bounds-sets-size
bounds-sets-size g c = omega (arith, c.requires.sets.1, c.requires.sets.2.0)

pub index-own-requires : goal.index-own-requires
index-own-requires g c =
    let s = c.args.self.now in
    let all = c.requires.sets in
    omega (
      arith,
      row_within (g.E.StockSets.fits s.table.now) s.stocks.items c.args.sets.now all.0 all.2 c.args.size c.args.place c.requires.stock.0 c.requires.stock.1 all.1
          c.index-sets-size.result c.index-sets-size.is,
      c.index-sets-size.result.ok.0,
    )

pub returns : goal.returns
returns g c stock stands =
    let s = c.args.self.now in
    let all = c.requires.sets in
    row_fits (g.E.StockSets.fits s.table.now) s.stocks.items c.args.sets.now all.0 all.2 c.args.size c.args.place stock stands all.1 c.index-sets-size.result c.index-sets-size.is
    c.index-own.result.now c.index-own.ensures
