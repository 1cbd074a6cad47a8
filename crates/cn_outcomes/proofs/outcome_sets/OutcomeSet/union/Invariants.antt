use Rattle.std.proofs.Common.{ℕ, ◌≡◌, ◌<◌, ◌↔◌, ◌⊎◌, length}
use Rattle.cn_outcomes.specs.PairSets.{Has}
use Rattle.cn_outcomes.proofs.outcome_sets.OutcomeSet.union.Given as goal

-- the states so far have the pairs of both
abbrev pub invariant-loop-q : goal.invariant-loop-q
invariant-loop-q l =
    ((q : ℕ) → q < l.q → (r : ℕ) → Has l.row r q ↔ (Has l.self r q ⊎ Has l.other r q))
    × (length l.row ≡ 16)
