use Rattle.std.proofs.Common.{ℕ, ◌<◌}
use Rattle.cn_outcomes.specs.PairSets.{Has}
use Rattle.cn_outcomes.proofs.outcome_sets.OutcomeSet.meets.Given as goal

-- the states so far have no common pair
abbrev pub invariant-loop-q : goal.invariant-loop-q
invariant-loop-q l = (q : ℕ) → q < l.q → (r : ℕ) → Has l.self r q → Has l.other r q → ⊥
