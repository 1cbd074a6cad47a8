use Rattle.std.proofs.Common.{◌≢◌, ◌<◌, ℕ, inl, inr, length, subst, sym}
use Rattle.cn_outcomes.proofs.Packing.{below_or_last}
use Rattle.cn_stocks.specs.Lasting.{HaveCommonState}
use Rattle.cn_stocks.proofs.LastingLemmas.Closing.{not_some}
use Rattle.cn_stocks.proofs.lasting.search.lasting_from.Goals as goal

pub loop-many-preserved : goal.loop-many-preserved
loop-many-preserved c many l = elim (below_or_last many c.loop-many.many l) [
  | inl u ↦ c.loop-many.invariant many u
  | inr e ↦ subst (λ (x : ℕ). (single : ℕ) → single < length c.args.table.now.operations → x ≢ single → HaveCommonState c.args.table.now c.args.start x single) (sym e)
      (c.lasting_single.ensures.none (not_some c.lasting_single.result c.in_default.not-Some))
]
