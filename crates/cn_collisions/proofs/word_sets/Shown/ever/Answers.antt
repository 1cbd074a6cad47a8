use Rattle.std.proofs.Common.{arith}
use Rattle.cn_stocks.proofs.EachLemmas.{each_read}
use Rattle.cn_collisions.proofs.word_sets.Shown.ever.Goals as goal

pub index-sets-requires : goal.index-sets-requires
index-sets-requires c =
    let r = c.requires in
    omega (arith, r.shown_are.1.0, r.asked, c.args.self.now.all.ok.0)

pub index-requires : goal.index-requires
index-requires c =
    let r = c.requires in
    let sets = each_read _ c.args.self.now.all.items _ c.args.asked c.index-sets.result.now r.shown_are.1 r.asked c.index-sets.ensures in
    omega (arith, sets.0, r.known, c.index-sets.result.now.ok.0)

pub returns : goal.returns
returns c t m stock is asked known r q =
    let sets = each_read _ c.args.self.now.all.items _ c.args.asked c.index-sets.result.now is.1 asked c.index-sets.ensures in
    each_read _ c.index-sets.result.now.items _ c.args.start c.index.result.now sets known c.index.ensures r q
