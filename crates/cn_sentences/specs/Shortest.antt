-- How short the protocols of a type get, in words.
use Rattle.std.specs.Prelude.{ℕ, ◌==◌, List, [], ◌++◌, codes, if◌then◌else◌}
use Rattle.std.specs.Fmt.{decimal}
use Rattle.cn_sentences.specs.declared.shortest.ShortestCost.{ShortestCost}

-- so many objects
abbrev pub objects_words : ℕ → List ℕ
objects_words count =
    if count == 1 then codes "1 object" else decimal count ++ (codes " objects" ++ [])

-- what the shortest plan costs, and that this is no lower bound for other protocols
unfoldable pub shortest_line : ShortestCost → List ℕ
shortest_line c = codes "Shortest plan: " ++ (decimal c.processes
    ++ (codes " processes agree in at most " ++ (decimal c.steps ++ (codes " steps each, through "
    ++ (objects_words c.objects
    ++ (codes " (cnum show --shortest). No plan of this kind takes fewer steps, but other protocols may.\n"
    ++ []))))))
