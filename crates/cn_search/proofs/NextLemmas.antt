-- A search of next states serves for every table with these next states.
use Rattle.std.proofs.Common.{◌≡◌, ℕ, ◌≤◌, length, Option, Some, None, subst}
use Rattle.cn_table.specs.TypeTable.{TypeTable}
use Rattle.cn_telling.specs.LastSearches.{HaveSameNexts, IsLastSearch}
use Rattle.cn_telling.specs.declared.exact.LastSearch.{LastSearch}
use Rattle.cn_search.specs.Nexts.{Serves}
use Rattle.cn_search.specs.declared.nexts.NextsSearch.{NextsSearch}

module _ (below : (t u : TypeTable) (most : ℕ) (last : Option LastSearch) → HaveSameNexts t u → IsLastSearch t most last → IsLastSearch u most last) where
  pub serves : (t u : TypeTable) (searched : Option NextsSearch) → HaveSameNexts t u → Serves t searched → Serves u searched
  serves t u None h is = is
  serves t u (Some s) h is = record {
    some = is.some;
    few = is.few;
    all = subst (λ k. k ≤ s.most) h.states is.all;
    last_is = below t u s.most s.last h is.last_is;
  }
