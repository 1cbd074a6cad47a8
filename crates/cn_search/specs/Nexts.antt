-- What a search tells of every table with the same next states.
use Rattle.std.specs.Prelude.{ℕ, ◌≤◌, IfSome, Option, length}
use Rattle.cn_table.specs.TypeTable.{TypeTable}
use Rattle.cn_stocks.specs.declared.limits.TheConstants.{MOST_SIZE}
use Rattle.cn_telling.specs.LastSearches.{IsLastSearch}
use Rattle.cn_search.specs.declared.nexts.NextsSearch.{NextsSearch}

-- the search goes up to at least as many operations as the type has states
pub record IsNextsSearch (t : TypeTable) (s : NextsSearch) : Type 0 where
  pub some : 3 ≤ s.most
  pub few : s.most ≤ MOST_SIZE
  pub all : length t.states ≤ s.most
  pub last_is : IsLastSearch t s.most s.last

-- the search, if there is one, is one of the table's next states
abbrev pub Serves : TypeTable → Option NextsSearch → Type 0
Serves t searched = IfSome searched (IsNextsSearch t)
