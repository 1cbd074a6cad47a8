use Rattle.std.proofs.Common.{◌≡◌, ℕ, List, ◌∙◌, inl, inr, get_or, get_or-set_same, get_or-set_other, length-set, max, min, slice_set, length, subst, sym, ap, arith}
use Rattle.cn_stocks.specs.Words.{times}
use Rattle.cn_stocks.proofs.Times.{same_or}
use Rattle.cn_joins.specs.Joins.{Join}
use Rattle.cn_stock_check.proofs.NeedLemmas.{need_by}
use Rattle.cn_stock_check.proofs.needs.need_of.Goals as goal

pub loop-operation-preserved : goal.loop-operation-preserved
loop-operation-preserved c =
    let k = c.loop-operation.operation in
    let counts : List ℕ = c.loop-operation.counts in
    let first : List ℕ = c.operations_of-first.result.now in
    let second : List ℕ = c.operations_of-second.result.now in
    let long : length counts ≡ 8 = c.loop-operation.invariant.long in
    let value : c.max.result ≡ max (min (times k first) 255) (min (times k second) 255) = cc in record {
      long = length-set counts k c.max.result ∙ long;
      each = λ o l. elim (same_or o k) [
        | inl e ↦ subst (λ (x : ℕ). get_or (slice_set counts k c.max.result) x 0 ≡ max (min (times x first) 255) (min (times x second) 255)) (sym e)
            (get_or-set_same counts k c.max.result 0 (omega (arith, long, c.loop-operation-test.true)) ∙ value)
        | inr n ↦ get_or-set_other counts k o c.max.result 0 n ∙ c.loop-operation.invariant.each o (omega (arith, l, n))
      ];
    }

pub returns : goal.returns
returns c =
    need_by c.requires.0 c.args.join.now c.operations_of-first.result.now c.operations_of-second.result.now c.loop-operation.counts (c.operations_of-first.ensures ∙ ap (λ (j : Join). j.first.word) c.join.view_is)
    (c.operations_of-second.ensures ∙ ap (λ (j : Join). j.second.word) c.join.view_is) c.requires.1 (omega (arith, c.requires.2)) c.loop-operation.invariant.long
    (λ o l. c.loop-operation.invariant.each o (omega (arith, l, c.loop-operation-test.false)))
