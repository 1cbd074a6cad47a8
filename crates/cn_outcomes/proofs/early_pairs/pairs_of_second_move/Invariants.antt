use Rattle.cn_outcomes.specs.EarlyPairs.{AreOutcomePairs}
use Rattle.cn_outcomes.proofs.early_pairs.pairs_of_second_move.Given as goal

abbrev pub invariant-loop-i : goal.invariant-loop-i
invariant-loop-i l = AreOutcomePairs l.table l.choice l.team l.j l.set
