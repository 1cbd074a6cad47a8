use Rattle.std.proofs.Common.{ℕ, ◌≡◌, ◌∙◌, arith, length, refl, subst, sym}
use Rattle.std.proofs.lemmas.Option.{same_Some, slice_get_read}
use Rattle.cn_stocks.specs.declared.stocks.Stock.{Stock}
use Rattle.cn_stocks.specs.Reach.{AreEnds}
use Rattle.cn_stocks.proofs.EachLemmas.{each_none, each_push}
use Rattle.cn_divisions.specs.Levels.{AreAllEnds}
use Rattle.cn_divisions.proofs.word_sets.all_ends.Goals as goal

pub loop-place-init : goal.loop-place-init
loop-place-init c = each_none _ c.in_ok-all.all.items c.in_ok-all.ensures.items

pub stock_ends-ends-requires : goal.stock_ends-ends-requires
stock_ends-ends-requires c =
    c.requires c.loop-place.place c.index-stocks-place.result (slice_get_read c.args.stocks.now (length c.args.stocks.now) c.loop-place.place c.index-stocks-place.result refl (c.loop-place-test.true) c.index-stocks-place.is)

pub loop-place-preserved : goal.loop-place-preserved
loop-place-preserved c =
    let here = slice_get_read c.args.stocks.now (length c.args.stocks.now) c.loop-place.place c.index-stocks-place.result refl (c.loop-place-test.true) c.index-stocks-place.is in
    each_push _ c.loop-place.all.items c.push.new.self.items c.stock_ends-ends.result c.loop-place.place c.in_ok-push.ensures.items c.loop-place.invariant
    (λ s e. subst (λ (z : Stock). AreEnds c.args.table.now z.operations.items (length c.args.table.now.states) c.stock_ends-ends.result.states) (same_Some _ _ (sym here ∙ e)) c.stock_ends-ends.ensures)

pub returns : goal.returns
returns c =
    let end : c.loop-place.place ≡ length c.args.stocks.now = omega (arith, c.loop-place-test.false, c.loop-place.auto.place-end) in
    subst (λ (k : ℕ). AreAllEnds c.args.table.now c.args.stocks.now k c.loop-place.all.items) end c.loop-place.invariant
