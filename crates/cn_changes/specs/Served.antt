-- Changes of one entry to one next state: one search serves for their consensus numbers.
use Rattle.std.specs.Prelude.{◌≡◌, List, All, Option}
use Rattle.cn_table.specs.TypeTable.{TypeTable}
use Rattle.cn_search.specs.Nexts.{Serves}
use Rattle.cn_search.specs.declared.nexts.NextsSearch.{NextsSearch}
use Rattle.cn_changes.specs.Changes.{with_change}
use Rattle.cn_changes.specs.declared.change.Change.{Change}
use Rattle.cn_changes.specs.declared.targets.Target.{Target}

-- the change leads to the next state, with some response
abbrev pub LeadsTo : Target → Change → Type 0
LeadsTo x c = c.target ≡ x

-- the search serves for the type with each of the changes
abbrev pub AreServed : TypeTable → List Change → Option NextsSearch → Type 0
AreServed t changes searched = All (λ c. Serves (with_change t c) searched) changes
