-- How many processes each team has.
use Rattle.std.specs.Prelude.{ℕ, ◌≡◌, ◌<◌, ◌≤◌, List, length, slice_index}
use Rattle.cn_choice.specs.declared.limits.TheConstants.{MOST_PROCESSES}
use Rattle.cn_stocks.specs.Words.{times}

-- the numbers of the teams are small
abbrev pub AreTeams : List ℕ → Type 0
AreTeams teams = (team : ℕ) → 1 ≤ times team teams → team < MOST_PROCESSES

-- for each small number how many processes are in that team
pub record AreCounts (teams counts : List ℕ) : Type 0 where
  pub long : length counts ≡ MOST_PROCESSES
  pub each : (team : ℕ) → team < MOST_PROCESSES → slice_index counts team ≡ times team teams
