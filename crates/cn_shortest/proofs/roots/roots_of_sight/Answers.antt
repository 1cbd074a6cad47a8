use Rattle.std.proofs.Common.{List, refl, subst, sym}
use Rattle.cn_divisions.specs.declared.divisions.Division.{Division}
use Rattle.cn_shortest.specs.Roots.{AreSizesOf, HaveSizes}
use Rattle.cn_shortest.proofs.roots.roots_of_sight.Goals as goal

pub all_sizes-requires-clause-divisions : goal.all_sizes-requires-clause-divisions
all_sizes-requires-clause-divisions c = subst (λ (l : List Division). HaveSizes c.args.n l) (sym c.as_slice.ensures.value) c.requires.sizes

pub returns : goal.returns
returns c = record { sight_is = refl; sizes = subst (λ (l : List Division). AreSizesOf c.args.n l c.in_ok-sizes.sizes.items) c.as_slice.ensures.value c.in_ok-sizes.ensures }
