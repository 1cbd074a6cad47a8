use Rattle.std.proofs.Common.{ℕ, ◌∙◌, arith, inl, inr, refl, subst, sym, true≢false}
use Rattle.cn_outcomes.proofs.Packing.{below_or_last}
use Rattle.cn_stocks.specs.Splits.{StockSplits}
use Rattle.cn_telling.proofs.exact.splits_from_some.Goals as goal

pub returns-then-branch : goal.returns-then-branch
returns-then-branch c = (λ h. (c.loop-start.start, omega (arith, c.loop-start-test.true, c.states-start-end.ensures.number), c.in_ok-splits_at.ensures.0 c.if-branch.true), λ h. refl)

pub loop-start-preserved : goal.loop-start-preserved
loop-start-preserved c q l s = elim (below_or_last q c.loop-start.start l) [
  | inl u ↦ c.loop-start.invariant q u s
  | inr e ↦ true≢false (sym (c.in_ok-splits_at.ensures.1 (subst (λ (k : ℕ). StockSplits c.args.table.now k c.args.stock.now.operations.items) e s)) ∙ c.if-branch.false)
]

pub returns : goal.returns
returns c = (
  λ h. absurd (true≢false (sym h)),
  λ h. absurd (c.loop-start.invariant h.0 (omega (arith, h.1, c.loop-start-test.false, c.states-start-end.ensures.number)) h.2),
)
