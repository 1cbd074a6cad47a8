use Rattle.std.proofs.Common.{◌≡◌, ◌∙◌, ℕ, List, inl, inr, get_or, get_or-set_same, get_or-set_other, length-set, slice_set, subst, sym, arith}
use Rattle.cn_stocks.proofs.Times.{same_or}
use Rattle.cn_stock_check.proofs.PartLemmas.{relabel, relabel_drop, relabel_other}
use Rattle.cn_stock_check.proofs.parts.with_one.Goals as goal
use Rattle.cn_stock_check.proofs.parts.with_one.Goals.{then-merged-operation, else-merged-operation}

pub loop-operation-preserved : goal.loop-operation-preserved
loop-operation-preserved c =
    let k = c.loop-operation.operation in
    let merged : List ℕ = c.loop-operation.merged in
    let labels : List ℕ = c.args.labels in
    let keep = c.args.keep in
    let drop = c.args.drop in
    let i = c.loop-operation.invariant in
    let here = i.rest k (omega arith) in
    elim c.if-merged-operation.branch [
      | then-merged-operation w ↦ rw w.merged-is (record {
        long = length-set merged k keep ∙ i.long;
        done = λ o l. elim (same_or o k) [
          | inl e ↦ subst (λ (x : ℕ). get_or (slice_set merged k keep) x 0 ≡ relabel keep drop (get_or labels x 0)) (sym e)
              (get_or-set_same merged k keep 0 (omega (arith, i.long, c.loop-operation-test.true)) ∙ sym (relabel_drop keep drop (get_or labels k 0) (omega (arith, here, w.if-merged-operation.true))))
          | inr n ↦ get_or-set_other merged k o keep 0 n ∙ i.done o (omega (arith, l, n))
        ];
        rest = λ o l. get_or-set_other merged k o keep 0 (λ e. absurd (omega (arith, l, e))) ∙ i.rest o (omega (arith, l));
      })
      | else-merged-operation w ↦ rw w.merged-is (record {
        long = i.long;
        done = λ o l. elim (same_or o k) [
          | inl e ↦ subst (λ (x : ℕ). get_or merged x 0 ≡ relabel keep drop (get_or labels x 0)) (sym e)
              (here ∙ sym (relabel_other keep drop (get_or labels k 0) (λ s. absurd (omega (arith, here, s, w.if-merged-operation.false)))))
          | inr n ↦ i.done o (omega (arith, l, n))
        ];
        rest = λ o l. i.rest o (omega (arith, l));
      })
    ]
