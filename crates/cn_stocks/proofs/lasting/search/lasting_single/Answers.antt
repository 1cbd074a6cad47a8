use Rattle.std.proofs.Common.{◌≡◌, ℕ, inl, inr, subst, sym}
use Rattle.cn_outcomes.proofs.Packing.{below_or_last}
use Rattle.cn_stocks.specs.Lasting.{HaveCommonState}
use Rattle.cn_stocks.proofs.lasting.search.lasting_single.Goals as goal
use Rattle.cn_stocks.proofs.lasting.search.lasting_single.Goals.{else-single-many-via-then-single-many+else-lasts, else-single-many-via-else-single-many}

pub loop-single-preserved : goal.loop-single-preserved
loop-single-preserved c single l d = elim (below_or_last single c.loop-single.single l) [
  | inl u ↦ c.loop-single.invariant single u d
  | inr e ↦ subst (λ (x : ℕ). HaveCommonState c.args.table.now c.args.start c.args.many x) (sym e) (elim c.else-single-many.branch [
    | else-single-many-via-then-single-many+else-lasts w ↦ w.lasts.ensures.no w.if-lasts.false
    | else-single-many-via-else-single-many w ↦ absurd (d (sym (subst (λ (x : ℕ). x ≡ c.args.many) (sym e) w.if-single-many.false)))
  ])
]
