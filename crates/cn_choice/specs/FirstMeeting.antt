-- The first process whose outcome sets meet.
use Rattle.std.specs.Prelude.{ℕ, ◌<◌}
use Rattle.cn_table.specs.TypeTable.{TypeTable}
use Rattle.cn_choice.specs.Discerning.{OutcomeSetsMeet}
use Rattle.cn_choice.specs.RawChoices.{RawChoice}

-- j is the least process whose two outcome sets meet
pub record IsFirstMeeting (t : TypeTable) (c : RawChoice) (j : ℕ) : Type 0 where
  pub meets : OutcomeSetsMeet t c j
  pub least : (i : ℕ) → i < j → ¬ OutcomeSetsMeet t c i
