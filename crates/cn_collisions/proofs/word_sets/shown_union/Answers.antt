use Rattle.std.proofs.Common.{ℕ, ◌+◌, ◌<◌, ◌≡◌, ◌↔◌, arith, subst}
use Rattle.cn_stocks.specs.Pairs.{Has}
use Rattle.cn_collisions.specs.Exact.{ShowsAfter}
use Rattle.cn_stocks.proofs.EachLemmas.{each_read}
use Rattle.cn_collisions.proofs.Gathering.{below_first, below_more}
use Rattle.cn_collisions.proofs.word_sets.shown_union.Goals as goal

pub loop-rows-init : goal.loop-rows-init
loop-rows-init c r q =
    let s = c.args.setting.now in
    below_first (λ k. ShowsAfter s.table.now c.args.start s.stock.now.operations.items c.args.asked k r q) (Has c.none-set.result r q) (c.none-set.ensures r q)

pub index-sets-requires : goal.index-sets-requires
index-sets-requires c =
    let rows = each_read _ c.args.by_count.now _ c.loop-rows.rows-index c.rows-item.result c.requires.shown (omega (arith, c.loop-rows-test.true, c.requires.shown.0)) c.rows-item.is in
    omega (arith, rows.0, c.requires.asked, c.rows-item.result.ok.0)

pub index-requires : goal.index-requires
index-requires c =
    let rows = each_read _ c.args.by_count.now _ c.loop-rows.rows-index c.rows-item.result c.requires.shown (omega (arith, c.loop-rows-test.true, c.requires.shown.0)) c.rows-item.is in
    let sets = each_read _ c.rows-item.result.items _ c.args.asked c.index-sets.result.now rows c.requires.asked c.index-sets.ensures in
    omega (arith, sets.0, c.requires.start, c.index-sets.result.now.ok.0)

pub loop-rows-preserved : goal.loop-rows-preserved
loop-rows-preserved c r q =
    let s = c.args.setting.now in
    let rows = each_read _ c.args.by_count.now _ c.loop-rows.rows-index c.rows-item.result c.requires.shown (omega (arith, c.loop-rows-test.true, c.requires.shown.0)) c.rows-item.is in
    let sets = each_read _ c.rows-item.result.items _ c.args.asked c.index-sets.result.now rows c.requires.asked c.index-sets.ensures in
    let here = each_read _ c.index-sets.result.now.items _ c.args.start c.index.result.now sets c.requires.start c.index.ensures r q in
    below_more (λ k. ShowsAfter s.table.now c.args.start s.stock.now.operations.items c.args.asked k r q) c.loop-rows.rows-index (Has c.loop-rows.set r q)
    (Has c.index.result.now r q) (Has c.add_all.new.self r q)
    (c.loop-rows.invariant r q) (c.add_all.ensures r q) here

pub returns : goal.returns
returns c r q =
    let s = c.args.setting.now in
    let end : c.loop-rows.rows-index ≡ s.size + 1 = omega (arith, c.requires.shown.0, c.loop-rows-test.false, c.loop-rows.auto.rows-index-end) in
    subst (λ (n : ℕ). Has c.loop-rows.set r q ↔ ((k : ℕ) × (k < n) × ShowsAfter s.table.now c.args.start s.stock.now.operations.items c.args.asked k r q)) end (c.loop-rows.invariant r q)
