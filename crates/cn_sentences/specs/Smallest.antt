-- The sentences on the smallest sets of operations with the number of a type.
use Rattle.std.specs.Prelude.{codes, ℕ, ◌+◌, ◌==◌, List, [], ◌++◌, length, flat_map}
use Rattle.std.specs.Prelude.{slice_index, if◌then◌else◌}
use Rattle.std.specs.List.{range_with_len}
use Rattle.cn_table.specs.Names.{name_at}
use Rattle.cn_table.specs.TypeTable.{TypeTable, operation_names}
use Rattle.cn_search.specs.NumberText.{number_text}
use Rattle.cn_pairs.specs.SetNumbers.{set_lists}
use Rattle.cn_pairs.specs.declared.pairs.Pairs.{Pairs}

-- what stands before the item with this place among so many: nothing before the first, ` and `
-- before the last, and `, ` before each other
abbrev pub separator : ℕ → ℕ → List ℕ
separator count place =
    if place == 0 then [] else (if place + 1 == count then codes " and " else codes ", ")

-- the name of the operation with this place in a set, behind its separator
abbrev pub listed_name : TypeTable → List ℕ → ℕ → List ℕ
listed_name t set place = separator (length set) place
    ++ (name_at (operation_names t) (slice_index set place) ++ [])

-- which operations the number needs: all of the type, or only those of the set
unfoldable pub needed : TypeTable → List ℕ → List ℕ
needed t set = if length set == length t.operations then codes "all operations"
    else codes "only " ++ (flat_map (listed_name t set) (range_with_len 0 (length set)) ++ [])

-- the line of a set, behind a mark, with the number of the type in words
unfoldable pub sentence : List ℕ → TypeTable → List ℕ → List ℕ → List ℕ
sentence mark t number set = mark ++ (codes "The number " ++ (number
    ++ (codes " of the type needs " ++ (needed t set ++ (codes ".\n" ++ [])))))

-- the lines of the smallest sets
abbrev pub sentences : List ℕ → TypeTable → Pairs → List ℕ
sentences mark t p = flat_map (sentence mark t (number_text p.number)) (set_lists p.smallest)
