use Rattle.std.proofs.Common.{◌⊎◌, ◌↔◌, ◌≡◌, ℕ, arith, inl, inr, length, subst}
use Rattle.std.specs.Prelude.{IsBitSet}
use Rattle.cn_signs.specs.StateSets.{StepsTo}
use Rattle.cn_signs.proofs.Walks.{first_step, more_steps}
use Rattle.cn_signs.proofs.states.grown.Goals as goal

pub loop-number-init : goal.loop-number-init
loop-number-init c = record {
  same = first_step c.args.table.now c.args.many.0 c.args.further.now c.args.set c.image.result c.union-grown.result c.image.ensures.same c.union-grown.ensures;
  known = λ q h. elim ((c.union-grown.ensures q).0 h) [ inl s ↦ c.requires.known q s | inr m ↦ c.image.ensures.known q m ];
}

pub loop-number-preserved : goal.loop-number-preserved
loop-number-preserved c =
    let i = c.loop-number.invariant in record {
      same = more_steps c.args.table.now c.args.many.0 c.args.further.now c.loop-number.number-index c.args.set c.image-in-loop-number.result c.loop-number.grown c.union-grown-in-loop-number.result
          c.image-in-loop-number.ensures.same c.union-grown-in-loop-number.ensures i.same;
      known = λ q h. elim ((c.union-grown-in-loop-number.ensures q).0 h) [ inl s ↦ i.known q s | inr m ↦ c.image-in-loop-number.ensures.known q m ];
    }

pub returns-clause-same : goal.returns-clause-same
returns-clause-same c =
    let last : c.loop-number.number-index ≡ length c.args.further.now = omega (arith, c.loop-number-test.false, c.loop-number.auto.number-index-end) in
    subst (λ (k : ℕ). (q : ℕ) → IsBitSet c.loop-number.grown q ↔ (IsBitSet c.args.set q ⊎ StepsTo c.args.table.now c.args.many.0 c.args.further.now k c.args.set q)) last c.loop-number.invariant.same
