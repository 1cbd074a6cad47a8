use Rattle.std.proofs.Common.{◌≢◌, ◌<◌, ℕ, inl, inr, length, subst, sym}
use Rattle.cn_outcomes.proofs.Packing.{below_or_last}
use Rattle.cn_stocks.specs.Lasting.{HaveCommonState}
use Rattle.cn_stocks.proofs.LastingLemmas.Closing.{not_some}
use Rattle.cn_stocks.proofs.lasting.search.find_lasting.Goals as goal

pub loop-start-preserved : goal.loop-start-preserved
loop-start-preserved c start l = elim (below_or_last start c.loop-start.start l) [
  | inl u ↦ c.loop-start.invariant start u
  | inr e ↦ subst (λ (x : ℕ). (many : ℕ) → many < length c.args.table.now.operations → (single : ℕ) → single < length c.args.table.now.operations → many ≢ single
      → HaveCommonState c.args.table.now x many single) (sym e)
      (c.lasting_from.ensures.none (not_some c.lasting_from.result c.in_default.not-Some))
]
