use Rattle.std.proofs.Common.{subst, sym}
use Rattle.cn_pairs.specs.SetNumbers.{AreSetNumbers}
use Rattle.cn_pairs.proofs.pairs.pairs_of.Goals as goal

pub smallest_after_pairs-requires-clause-alone : goal.smallest_after_pairs-requires-clause-alone
smallest_after_pairs-requires-clause-alone g c κs within =
    subst (AreSetNumbers c.args.table.now 1) (sym c.as_slice.ensures.value) c.in_ok-alone.ensures

pub smallest_after_pairs-requires-clause-pairs : goal.smallest_after_pairs-requires-clause-pairs
smallest_after_pairs-requires-clause-pairs g c κs within =
    subst (AreSetNumbers c.args.table.now 2) (sym c.as_slice-2.ensures.value) c.in_ok-pairs.ensures
