use Rattle.std.proofs.Common.{arith}
use Rattle.cn_stocks.proofs.EachLemmas.{each_read}
use Rattle.cn_collisions.proofs.word_sets.Shown.after.Goals as goal

pub index-rows-requires : goal.index-rows-requires
index-rows-requires c = omega (arith, c.requires.count, c.requires.shown_are.0.0, c.args.self.now.by_count.ok.0)

pub index-sets-requires : goal.index-sets-requires
index-sets-requires c =
    let r = c.requires in
    let rows = each_read _ c.args.self.now.by_count.items _ c.args.count c.index-rows.result.now r.shown_are.0 (omega (arith, r.count)) c.index-rows.ensures in
    omega (arith, rows.0, r.asked, c.index-rows.result.now.ok.0)

pub index-requires : goal.index-requires
index-requires c =
    let r = c.requires in
    let rows = each_read _ c.args.self.now.by_count.items _ c.args.count c.index-rows.result.now r.shown_are.0 (omega (arith, r.count)) c.index-rows.ensures in
    let sets = each_read _ c.index-rows.result.now.items _ c.args.asked c.index-sets.result.now rows r.asked c.index-sets.ensures in
    omega (arith, sets.0, r.known, c.index-sets.result.now.ok.0)

pub returns : goal.returns
returns c t m stock is few asked known r q =
    let rows = each_read _ c.args.self.now.by_count.items _ c.args.count c.index-rows.result.now is.0 (omega (arith, few)) c.index-rows.ensures in
    let sets = each_read _ c.index-rows.result.now.items _ c.args.asked c.index-sets.result.now rows asked c.index-sets.ensures in
    each_read _ c.index-sets.result.now.items _ c.args.start c.index.result.now sets known c.index.ensures r q
