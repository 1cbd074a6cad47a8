-- Whether sets of states tell which team moved first. A set is a number whose bit q says whether
-- state q is in it.
use Rattle.std.specs.Prelude.{ℕ, ◌<◌, length, IsBitSet}
use Rattle.cn_table.specs.TypeTable.{TypeTable}
use Rattle.cn_choice.specs.Canonical.{Choice}
use Rattle.cn_choice.specs.RawChoices.{RawChoice}
use Rattle.cn_choice.specs.declared.team.Team.{Team}
use Rattle.cn_outcomes.specs.LeftStates.{LeavesIn}

-- each state of the set is left by an order that begins in the team
abbrev pub AreLeft : TypeTable → RawChoice → Team → ℕ → Type 0
AreLeft t c team set = (q : ℕ) → IsBitSet set q → LeavesIn t c team q

-- no state is in both sets; if B has two, the start state is not in that of A; if A has two, it is
-- not in that of B
pub record AreApart (c : Choice) (from_a from_b : ℕ) : Type 0 where
  pub apart : (q : ℕ) → IsBitSet from_a q → ¬ IsBitSet from_b q
  pub no_way_back_a : 1 < length c.b → ¬ IsBitSet from_a c.state
  pub no_way_back_b : 1 < length c.a → ¬ IsBitSet from_b c.state
