use Rattle.std.proofs.Common.{arith, length, subst, sym}
use Rattle.cn_join_find.specs.Renaming.{IsOfFirst}
use Rattle.cn_join_find.proofs.renaming.renamed_joins.Goals as goal

pub renamed_join-requires : goal.renamed_join-requires
renamed_join-requires c =
    subst (IsOfFirst (length c.args.numbers.now)) (sym c.join-item.is) (c.requires c.loop-join.join-index c.join-item.result (omega (arith, c.loop-join-test.true)))
