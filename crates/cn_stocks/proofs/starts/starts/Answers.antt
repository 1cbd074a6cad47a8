use Rattle.std.proofs.Common.{ℕ, ◌<◌, ◌≤◌, ◌∙◌, inl, inr, arith, length, subst, sym, true≢false}
use Rattle.cn_outcomes.proofs.Packing.{below_or_last}
use Rattle.cn_stocks.specs.Questions.{Holds}
use Rattle.cn_stocks.proofs.StartLemmas.{less_has}
use Rattle.cn_stocks.proofs.starts.starts.Goals as goal

pub loop-start-preserved-then-not-contains : goal.loop-start-preserved-then-not-contains
loop-start-preserved-then-not-contains c q =
    let s = c.args.setting.now in
    let question = c.args.question in
    let items = s.stock.now.operations.items in
    let k = c.loop-start.start in
    let i = c.loop-start.invariant q in
    let three : 3 ≤ length items = omega (arith, c.if-not-few.true, c.len-few.ensures.value) in
    let below : k < length s.table.now.states = omega (arith, c.loop-start-test.true, c.states-start-end.ensures.number) in (
      λ b. (let h = i.0 b in (omega (arith, h.0), h.1)),
      λ h. elim (below_or_last q k h.0) [
        | inl l ↦ i.1 (l, h.1)
        | inr e ↦ absurd (
            let bit = less_has question s c.less_starts-less.result c.requires c.less_starts-less.ensures three k below (subst (λ (x : ℕ). Holds question s.table.now x items) e h.1) in
            true≢false (sym (c.contains.ensures.1 bit) ∙ c.if-not-contains.true))
      ],
    )
