use Rattle.std.proofs.Common.{Global, ℕ, ◌≡◌, ◌-◌, ◌∙◌, Some, ap, arith, subst}
use Rattle.std.specs.Prelude.{slice_get}
use Rattle.std.specs.declared.vec.Vec.{Vec}
use Rattle.cn_collisions.proofs.StandLemmas.{read_is}
use Rattle.cn_collisions.proofs.sets.below.Goals as goal

pub returns-clause-some : goal.returns-clause-some
returns-clause-some g c m level e h =
    let before : m ≡ c.args.size - 1 = omega (arith, e) in
    let levels = c.args.levels.now in
    let same = read_is levels (c.args.size - 1) c.index-levels-size.result level (subst (λ (i : ℕ). slice_get levels i ≡ Some level) before h) c.index-levels-size.is in
    c.as_slice.ensures.value ∙ ap (λ (x : Vec _ Global). x.items) same
