-- Names of states.
use Rattle.std.specs.Prelude.{ℕ, List, [], ◌++◌, codes, flat_map}
use Rattle.cn_table.specs.Names.{name_at}
use Rattle.cn_table.specs.TypeTable.{TypeTable}
use Rattle.cn_table.specs.declared.elements.State.{State}

-- the name of a state behind a space
abbrev pub listed_state : TypeTable → State → List ℕ
listed_state t q = codes " " ++ (name_at t.states q.0 ++ [])

abbrev pub states_told : TypeTable → List State → List ℕ
states_told t states = flat_map (listed_state t) states
