use Rattle.std.proofs.Common.{ℕ, ◌≡◌, ◌<◌, ◌^◌, inl, inr, arith, subst, sym, bit_and, get_or}
use Rattle.std.specs.Prelude.{IsBitSet}
use Rattle.cn_outcomes.proofs.BitSets.{intersection_set, union_set}
use Rattle.cn_outcomes.proofs.Packing.{below_or_last}
use Rattle.cn_stocks.proofs.PairLemmas.{inside, is_some_set}
use Rattle.cn_stocks.proofs.pair_sets.PairSet.meets.Goals as goal

pub loop-response-preserved : goal.loop-response-preserved
loop-response-preserved c = record {
  common_is = λ q.
      let a = c.args.self.now.states in
      let b = c.args.other.now.states in
      let k = c.loop-response.response in
      let i = c.loop-response.invariant.common_is q in
      let common = bit_and (get_or a k 0) (get_or b k 0) in (
        λ h. elim ((union_set c.loop-response.common common q).0 h) [
          | inl u ↦ (let r = i.0 u in (r.0, omega (arith, r.1), r.2, r.3))
          | inr u ↦ (let r = (intersection_set (get_or a k 0) (get_or b k 0) q).0 u in (k, omega arith, r.0, r.1))
        ],
        λ h. (union_set c.loop-response.common common q).1 (elim (below_or_last h.0 k h.1) [
          | inl l ↦ inl (i.1 (h.0, l, h.2, h.3))
          | inr e ↦ inr ((intersection_set (get_or a k 0) (get_or b k 0) q).1 (subst (λ (x : ℕ). IsBitSet (get_or a x 0) q) e h.2, subst (λ (x : ℕ). IsBitSet (get_or b x 0) q) e h.3))
        ]),
      );
  long = c.loop-response.invariant.long;
}

pub returns : goal.returns
returns c =
    let small : c.loop-response.common < 2 ^ 16 = omega arith in
    let some = is_some_set c.loop-response.common small in
    let end : c.loop-response.response ≡ 16 = omega (arith, c.loop-response-test.false, c.loop-response.auto.response-end) in (
      λ h. (let q = some.0 h in let r = (c.loop-response.invariant.common_is q.0).0 q.1 in (r.0, (q.0, r.2, r.3))),
      λ h. some.1 (
        h.1.0,
        (c.loop-response.invariant.common_is h.1.0).1
            (h.0, subst (λ (n : ℕ). h.0 < n) (sym end) (inside c.args.self.now.states h.0 h.1.0 c.loop-response.invariant.long h.1.1), h.1.1, h.1.2),
      ),
    )
