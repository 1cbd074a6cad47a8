use Rattle.std.proofs.Common.{◌≡◌, ℕ, arith, subst}
use Rattle.cn_telling.specs.Levels.{IsSearch}
use Rattle.cn_join_find.proofs.likely.likely_split.Goals as goal

pub some_split-requires-clause-search : goal.some_split-requires-clause-search
some_split-requires-clause-search g c =
    let e : c.loop-size.size ≡ c.args.n = omega (arith, c.loop-size-test.false, c.loop-size.auto.size-end) in
    subst (λ (n : ℕ). IsSearch c.args.table.now n c.loop-size.search) e c.loop-size.invariant
