use Rattle.std.proofs.Common.{ℕ, ◌<◌}
use Rattle.cn_choice.specs.declared.team.Team.TheVariants.{A, B}
use Rattle.cn_choice.specs.OutcomeSets.{InOutcomeSet}
use Rattle.cn_outcomes.proofs.outcome_sets.is_witness_by_rows.Given as goal

-- no process so far has a pair in both sets
abbrev pub invariant-loop-j : goal.invariant-loop-j
invariant-loop-j l =
    (j : ℕ) → j < l.j → (r q : ℕ)
    → InOutcomeSet l.table l.choice A j (r, q) → InOutcomeSet l.table l.choice B j (r, q) → ⊥
