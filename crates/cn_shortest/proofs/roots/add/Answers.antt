use Rattle.std.proofs.Common.{ℕ, List, ap, subst}
use Rattle.std.specs.Prelude.{slice_index}
use Rattle.cn_shortest.specs.Roots.{HasCounts}
use Rattle.cn_shortest.specs.declared.sizes.Sizes.{Sizes}
use Rattle.cn_shortest.proofs.roots.add.Goals as goal

pub returns-then-has-clause-has : goal.returns-then-has-clause-has
returns-then-has-clause-has c =
    let h = subst (λ (l : List Sizes). HasCounts l c.args.sizes.counts) c.as_slice.ensures.value (c.has.ensures.0 c.if-has.true) in
    (h.0, h.1, h.2, λ x l. ap (λ (xs : List ℕ). slice_index xs x) h.3)
