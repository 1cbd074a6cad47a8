use Rattle.std.proofs.Common.{◌≡◌, ◌+◌, ◌∙◌, ℕ, List, inl, inr, get_or, get_or-set_same, get_or-set_other, length-set, slice_set, length, subst, sym, arith}
use Rattle.cn_stocks.specs.Words.{times}
use Rattle.cn_stocks.proofs.Times.{same_or}
use Rattle.cn_stock_check.proofs.NeedLemmas.{times_short}
use Rattle.cn_stock_check.proofs.witness.counts_of.Goals as goal

pub loop-operation-preserved : goal.loop-operation-preserved
loop-operation-preserved c =
    let k = c.loop-operation.operation in
    let counts : List ℕ = c.loop-operation.counts in
    let a : List ℕ = c.args.a.now in
    let b : List ℕ = c.args.b.now in
    let long : length counts ≡ 8 = c.loop-operation.invariant.long in
    let new = c.count.result + c.count-in-loop-operation.result in
    let value : c.count.result + c.count-in-loop-operation.result ≡ times k a + times k b = omega (arith, c.count.ensures, c.count-in-loop-operation.ensures, times_short k a, times_short k b, c.requires) in record {
      long = length-set counts k new ∙ long;
      each = λ o l. elim (same_or o k) [
        | inl e ↦ subst (λ (x : ℕ). get_or (slice_set counts k new) x 0 ≡ times x a + times x b) (sym e) (get_or-set_same counts k new 0 (omega (arith, long, c.loop-operation-test.true)) ∙ value)
        | inr n ↦ get_or-set_other counts k o new 0 n ∙ c.loop-operation.invariant.each o (omega (arith, l, n))
      ];
    }
