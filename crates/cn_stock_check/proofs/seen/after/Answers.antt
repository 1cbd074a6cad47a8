use Rattle.std.proofs.Common.{◌≡◌, ◌↔◌, ◌+◌, ◌<◌, ◌∙◌, ℕ, ap, subst, sym, true≢false}
use Rattle.cn_table.specs.TypeTable.{transition}
use Rattle.cn_stock_check.specs.Sets.{IsIn}
use Rattle.cn_stock_check.proofs.SetLemmas.{as_flat, from_flat, none_more, one_more}
use Rattle.cn_stock_check.proofs.seen.after.Goals as goal
use Rattle.cn_stock_check.proofs.seen.after.Goals.{then-has, else-has}

pub loop-state-preserved : goal.loop-state-preserved
loop-state-preserved c q =
    let t = c.args.table.now in
    let o = c.args.operation.0 in
    let k = c.loop-state.state in
    let F : ℕ → Type 0 = λ p. IsIn c.args.states p in
    let G : ℕ → Type 0 = λ p. (transition t o p).1 ≡ q in
    let P : ℕ → Type 0 = λ p. F p × G p in
    let old = from_flat F G k (IsIn c.loop-state.set q) (c.loop-state.invariant q) in
    elim c.if-has.branch [
      | then-has w ↦ (
          let next : w.apply.result.1.0 ≡ (transition t o k).1 = ap (λ (p : ℕ × ℕ). p.1) w.apply.ensures.value in
          subst (λ (set : ℕ). IsIn set q ↔ ((x : ℕ) × (x < k + 1) × F x × G x)) (sym w.set-is)
          (as_flat F G (k + 1) (IsIn w.union-set.result q) (one_more P k (IsIn c.loop-state.set q) (IsIn w.only.result q) (IsIn w.union-set.result q) old
          ((λ h. (c.has.ensures.0 w.if-has.true, sym next ∙ sym ((w.only.ensures q).0 h))), (λ h. (w.only.ensures q).1 (sym (next ∙ h.1))))
          (w.union-set.ensures q)))
          )
      | else-has w ↦ subst (λ (set : ℕ). IsIn set q ↔ ((x : ℕ) × (x < k + 1) × F x × G x)) (sym w.set-is)
          (as_flat F G (k + 1) (IsIn c.loop-state.set q) (none_more P k (IsIn c.loop-state.set q) old (λ h. true≢false (sym (c.has.ensures.1 h.0) ∙ w.if-has.false))))
    ]
