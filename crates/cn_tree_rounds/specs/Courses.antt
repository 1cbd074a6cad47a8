-- The course of a schedule.
use Rattle.std.specs.Prelude.{ℕ, List, Option}
use Rattle.cn_tree_rounds.specs.declared.action.StepRecord.{StepRecord}

-- the steps of a schedule, and the decisions after it
pub record Course : Type 0 where
  pub records : List StepRecord
  pub decisions : List (Option ℕ)
