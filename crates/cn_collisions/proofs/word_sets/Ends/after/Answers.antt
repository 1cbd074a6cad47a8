use Rattle.std.proofs.Common.{arith, length}
use Rattle.cn_collisions.specs.Exact.{AreEndsAfter}
use Rattle.cn_stocks.proofs.EachLemmas.{each_read}
use Rattle.cn_collisions.proofs.word_sets.Ends.after.Goals as goal

pub index-row-requires : goal.index-row-requires
index-row-requires c = omega (arith, c.requires.count, c.requires.ends_are.0.0, c.args.self.now.by_count.ok.0)

pub returns : goal.returns
returns c t m stock is few known q =
    each_read (λ k row. AreEndsAfter t stock k (length t.states) row) c.args.self.now.by_count.items _ c.args.count c.index-row.result.now is.0
    (omega (arith, few)) c.index-row.ensures c.args.start known q
