use Rattle.std.proofs.Common.{ℕ}
use Rattle.std.specs.Prelude.{IsBitSet}
use Rattle.cn_table.specs.TypeTable.{transition}
use Rattle.cn_outcomes.specs.PairSets.{Has}
use Rattle.cn_outcomes.proofs.Unions.{GathersFrom, answer_part}
use Rattle.cn_outcomes.proofs.outcome_sets.OutcomeSet.of_answers.Given as goal

-- the answers from the states so far
abbrev pub invariant-loop-state : goal.invariant-loop-state
invariant-loop-state l = GathersFrom (answer_part (transition l.table l.operation.0)) (IsBitSet l.fn.from) l.state-iterator (λ (x : ℕ × ℕ). Has l.set x.0 x.1)
