-- Groups of processes in words.
use Rattle.std.specs.Prelude.{ℕ, ◌+◌, ◌-◌, List, [], ◌∷◌, ◌++◌, ◌==◌, codes, flat_map, nat_le, if◌then◌else◌}
use Rattle.std.specs.Fmt.{decimal}
use Rattle.cn_table.specs.Names.{name_at}
use Rattle.cn_table.specs.TypeTable.{TypeTable, operation_names}
use Rattle.cn_reasons.specs.declared.group.Group.{Group}

abbrev pub process_name : ℕ → List ℕ
process_name p = codes "p" ++ decimal p

-- the words between the first process of a group and its last
abbrev pub joint : ℕ → List ℕ
joint count = if nat_le count 1 then [] else (if count == 2 then codes " and " else codes " to ")

-- the last process, if it is not the first
abbrev pub last_name : ℕ → ℕ → List ℕ
last_name first count = if nat_le count 1 then [] else process_name (first + (count - 1))

-- this number of processes, from the first on
unfoldable pub processes : ℕ → ℕ → List ℕ
processes first count = process_name first ++ (joint count ++ (last_name first count ++ []))

abbrev pub does : ℕ → List ℕ
does count = if nat_le count 1 then codes " does " else codes " do "

-- the processes of a group, words for their team, and their operation
unfoldable pub member : TypeTable → List ℕ → List ℕ → Group → List ℕ
member t before team g =
    before ++ (process_name g.first ++ (joint g.count ++ (last_name g.first g.count ++ (team
    ++ (does g.count ++ (name_at (operation_names t) g.operation.0 ++ []))))))

-- the groups, with a comma between two
abbrev pub members : TypeTable → List ℕ → List Group → List ℕ
members t team [] = []
members t team (g ∷ gs) = member t [] team g ++ flat_map (member t (codes ", ") team) gs
