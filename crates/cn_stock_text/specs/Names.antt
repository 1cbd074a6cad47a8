-- Names of operations and of states, each behind a space.
use Rattle.std.specs.Prelude.{ℕ, List, ◌++◌, codes, flat_map}
use Rattle.cn_table.specs.Names.{name_at}
use Rattle.cn_table.specs.TypeTable.{TypeTable, operation_names}

abbrev pub listed_operation : TypeTable → ℕ → List ℕ
listed_operation t o = codes " " ++ name_at (operation_names t) o

abbrev pub operations_listed : TypeTable → List ℕ → List ℕ
operations_listed t operations = flat_map (listed_operation t) operations

abbrev pub listed_state : TypeTable → ℕ → List ℕ
listed_state t q = codes " " ++ name_at t.states q

abbrev pub states_listed : TypeTable → List ℕ → List ℕ
states_listed t states = flat_map (listed_state t) states
