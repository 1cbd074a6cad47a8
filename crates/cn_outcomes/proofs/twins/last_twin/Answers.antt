use Rattle.std.proofs.Common.{inl, inr, ◌+◌, ℕ, arith, subst, sym}
use Rattle.std.specs.Prelude.{IsBitSet}
use Rattle.cn_outcomes.proofs.BitSets.{member_below}
use Rattle.cn_outcomes.proofs.Packing.{below_or_last}
use Rattle.cn_outcomes.proofs.twins.last_twin.Goals as goal

pub loop-followed-preserved : goal.loop-followed-preserved
loop-followed-preserved c =
    let i = c.loop-followed.invariant in
    let both = (c.common_predecessors-followed.ensures c.loop-followed.last).0 (c.has.ensures.0 c.loop-followed-test.true) in
    record {
      from = omega (arith, i.from);
      range = member_below 16 c.args.subset (c.loop-followed.last + 1) (omega arith) both.1;
      member = both.1;
      run = λ p l u. elim (below_or_last p c.loop-followed.last u) [ inl b ↦ i.run p l b | inr e ↦ subst (λ (k : ℕ). IsBitSet c.args.links (k + 1)) (sym e) both.0 ];
    }
