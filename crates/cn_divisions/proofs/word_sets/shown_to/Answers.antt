use Rattle.std.proofs.Common.{◌∙◌, ◌↔◌, List, [], arith, subst, sym, true≢false}
use Rattle.std.proofs.lemmas.Option.{slice_get-get_or}
use Rattle.cn_outcomes.proofs.LastProcess.{zero_has_none}
use Rattle.cn_stocks.specs.declared.pair_sets.PairSet.{PairSet}
use Rattle.cn_stocks.specs.Pairs.{Has, set_at}
use Rattle.cn_stocks.specs.Reach.{ShowsWithin}
use Rattle.cn_stocks.proofs.EachLemmas.{each_none, each_push}
use Rattle.cn_stocks.proofs.Steps.{within_asked}
use Rattle.cn_divisions.proofs.word_sets.shown_to.Goals as goal

pub loop-start-init : goal.loop-start-init
loop-start-init c = each_none _ c.in_ok-sets.sets.items c.in_ok-sets.ensures.items

pub loop-start-preserved : goal.loop-start-preserved
loop-start-preserved c = each_push _ c.loop-start.sets.items c.push.new.self.items c.shown_from-set.result c.loop-start.start c.in_ok-push.ensures.items c.loop-start.invariant c.shown_from-set.ensures

pub returns : goal.returns
returns c start below =
    let i = c.loop-start.invariant in
    i.1 start (set_at c.loop-start.sets.items start)
    (slice_get-get_or c.loop-start.sets.items start (record { states = [] }) (omega (arith, below, i.0, c.states-end.ensures.number, c.loop-start-test.false, c.loop-start.auto.start-end)))

pub returns-then-not-has : goal.returns-then-not-has
returns-then-not-has c start below r q =
    let s = c.args.setting.now in
    let items = s.stock.now.operations.items in
    subst (λ (sets : List PairSet). Has (set_at sets start) r q ↔ ShowsWithin s.table.now start items c.args.asked r q) (sym c.new.ensures.items) (
      λ h. absurd (zero_has_none q h),
      λ x. absurd (true≢false (sym (c.has.ensures.1 (within_asked s.table.now start items c.args.asked r q x)) ∙ c.if-not-has.true)),
    )
