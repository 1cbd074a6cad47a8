use Rattle.std.proofs.Common.{ℕ, ◌↔◌, ◌≤◌, ◌∙◌, List, IfOk, IsTrue, arith, length, subst, sym, true≢false}
use Rattle.cn_stocks.specs.Splits.{StockSplits}
use Rattle.cn_stocks.specs.Words.{IsKnown}
use Rattle.cn_telling.proofs.exact.splits_at.Goals as goal

pub returns-then-not-may_split : goal.returns-then-not-may_split
returns-then-not-may_split c = (
  λ h. absurd (true≢false (sym h)),
  λ s. absurd (true≢false (sym (c.may_split.ensures c.requires.some s) ∙ c.if-not-may_split.true)),
)

pub splits-requires-clause-known : goal.splits-requires-clause-known
splits-requires-clause-known c = subst (λ (list : List ℕ). IsKnown (length c.args.table.now.operations) list) (sym c.as_slice.ensures.value) c.requires.next.stock_is.known

pub splits-requires-clause-some : goal.splits-requires-clause-some
splits-requires-clause-some c = subst (λ (list : List ℕ). 1 ≤ length list) (sym c.as_slice.ensures.value) (omega (arith, c.requires.some))

pub returns : goal.returns
returns c = subst (λ (list : List ℕ). IfOk c.splits.result (λ yes. IsTrue yes ↔ StockSplits c.args.table.now c.args.start list)) c.as_slice.ensures.value c.splits.ensures
