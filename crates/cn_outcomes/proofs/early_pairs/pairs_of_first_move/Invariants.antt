use Rattle.cn_outcomes.specs.EarlyPairs.{AreOutcomePairs}
use Rattle.cn_outcomes.proofs.early_pairs.pairs_of_first_move.Given as goal

abbrev pub invariant-loop-k : goal.invariant-loop-k
invariant-loop-k l = AreOutcomePairs l.table l.choice l.fn.team l.j l.set
