use Rattle.std.proofs.Common.{ℕ}
use Rattle.cn_outcomes.specs.PairSets.{Has}
use Rattle.cn_outcomes.specs.RowSettings.{HasPairs}
use Rattle.cn_outcomes.proofs.Unions.{Gathers, subset_part}
use Rattle.cn_outcomes.proofs.subset_pairs.outcomes_from.Given as goal

-- the pairs of the packed subsets so far
abbrev pub invariant-loop-number : goal.invariant-loop-number
invariant-loop-number l =
    let s = l.setting in
    HasPairs s l.j l.number l.pairs
    × Gathers (subset_part s.table.now s.choice.now s.team l.j s.links) l.number (λ (x : ℕ × ℕ). Has l.all x.0 x.1)
