use Rattle.std.proofs.Common.{ℕ, List, ◌<◌, ◌≤◌, ◌∙◌, inl, inr, arith, length, subst, sym, true≢false}
use Rattle.cn_outcomes.proofs.Packing.{below_or_last}
use Rattle.cn_telling.specs.Telling.{Tells}
use Rattle.cn_telling.specs.declared.ends.Ends.{Ends}
use Rattle.cn_telling.specs.Settings.{IsOver}
use Rattle.cn_telling.proofs.LevelLemmas.{less_has, over_level}
use Rattle.cn_telling.proofs.levels.starts.Goals as goal

pub loop-start-preserved-then-not-contains : goal.loop-start-preserved-then-not-contains
loop-start-preserved-then-not-contains c q =
    let t = c.args.table.now in
    let items = c.args.stock.now.operations.items in
    let k = c.loop-start.start in
    let i = c.loop-start.invariant q in
    let three : 3 ≤ length items = omega (arith, c.if-not-few.true, c.len-few.ensures.value) in
    let below : k < length t.states = omega (arith, c.loop-start-test.true, c.states-start-end.ensures.number) in (
      λ b. (let h = i.0 b in (omega (arith, h.0), h.1)),
      λ h. elim (below_or_last q k h.0) [
        | inl l ↦ i.1 (l, h.1)
        | inr e ↦ absurd (
            let bit = less_has t c.args.level.now c.args.stock.now c.less_starts-less.result c.requires c.less_starts-less.ensures three k below (subst (λ (x : ℕ). Tells t x items) e h.1) in
            true≢false (sym (c.contains.ensures.1 bit) ∙ c.if-not-contains.true))
      ],
    )

pub tells_from-requires-clause-setting : goal.tells_from-requires-clause-setting
tells_from-requires-clause-setting c =
    let level = c.args.level.now in (
      level.stocks.list.items,
      subst (λ (ends : List Ends). IsOver c.args.table.now level.stocks.list.items ends c.args.stock.now) (sym c.as_slice.ensures.value)
          (over_level c.args.table.now level c.args.stock.now c.requires),
    )
