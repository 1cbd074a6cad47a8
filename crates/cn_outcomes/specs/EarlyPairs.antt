-- Sets of pairs that a process gets.
use Rattle.std.specs.Prelude.{ℕ, List}
use Rattle.cn_table.specs.TypeTable.{TypeTable}
use Rattle.cn_choice.specs.declared.team.Team.{Team}
use Rattle.cn_outcomes.specs.PairSets.{Has}
use Rattle.cn_choice.specs.OutcomeSets.{InOutcomeSet}
use Rattle.cn_choice.specs.RawChoices.{RawChoice}

-- each pair of the set is in the outcome set of the team for process j
abbrev pub AreOutcomePairs : TypeTable → RawChoice → Team → ℕ → List ℕ → Type 0
AreOutcomePairs t c team j set = (r q : ℕ) → Has set r q → InOutcomeSet t c team j (r, q)
