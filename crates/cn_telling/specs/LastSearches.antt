-- Searches that have come to where no stock tells, and the tables for which they serve.
use Rattle.std.specs.Prelude.{◌≡◌, ℕ, ◌+◌, ◌<◌, ◌≤◌, length, Option, None, Some}
use Rattle.cn_table.specs.TypeTable.{TypeTable, transition}
use Rattle.cn_telling.specs.Levels.{IsSearch}
use Rattle.cn_telling.specs.Telling.{SomeTells}
use Rattle.cn_telling.specs.declared.exact.LastSearch.{LastSearch}

-- the tables have as many states and operations, and each operation leads from each state to the
-- same one
pub record HaveSameNexts (t u : TypeTable) : Type 0 where
  pub states : length t.states ≡ length u.states
  pub operations : length t.operations ≡ length u.operations
  pub nexts : (o q : ℕ) → (transition t o q).1 ≡ (transition u o q).1

-- the search is at the first number of operations above 2 of which no stock tells, which is at most
-- the most
pub record IsLastOf (t : TypeTable) (most : ℕ) (last : LastSearch) : Type 0 where
  pub some : 2 ≤ last.n
  pub few : last.n < most
  pub search_is : IsSearch t (last.n + 1) last.search
  pub tells : 3 ≤ last.n → SomeTells t last.n
  pub none : ¬ SomeTells t (last.n + 1)

-- the same, or some stock of the most operations tells
abbrev pub IsLastSearch : TypeTable → ℕ → Option LastSearch → Type 0
IsLastSearch t most None = SomeTells t most
IsLastSearch t most (Some last) = IsLastOf t most last
