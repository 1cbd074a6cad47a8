-- Why the number is no more, by joins.
use Rattle.std.specs.Prelude.{ℕ, ◌+◌, ◌-◌, ◌==◌, List, [], ◌∷◌, ◌++◌, codes, decimal, flat_map, length}
use Rattle.std.specs.Prelude.{take, Bool, Option, Some, None, if◌then◌else◌}
use Rattle.std.specs.List.{concat}
use Rattle.cn_table.specs.TypeTable.{TypeTable}
use Rattle.cn_joins.specs.Joins.{Join}
use Rattle.cn_stock_text.specs.Joins.{join_line}
use Rattle.cn_stock_text.specs.declared.limits.TheConstants.{MOST_TOLD}

-- how many joins there are; a type needs none only where its operations all lead from each state to the
-- same one
abbrev pub count_words : ℕ → List ℕ
count_words count =
    if count == 0 then codes "no join is needed, since no two operations of the type lead from a state to different ones.\n"
    else (if count == 1
    then codes "1 join; in both of its runs some process gets the response behind the slash and reads the state left.\n"
    else decimal count
    ++ codes " joins; in both runs of each some process gets the response behind the slash and reads the state left.\n")

-- the joins that are told, and how many are not: all are told, or the first of them
abbrev pub told : Bool → List Join → List Join
told all joins = if all then joins else take MOST_TOLD joins

abbrev pub untold : Bool → List Join → ℕ
untold all joins = if all then 0 else length joins - MOST_TOLD

abbrev pub more_line : ℕ → List ℕ
more_line more =
    if more == 0 then []
    else concat (codes "  and " ∷ decimal more ∷ codes " more (--all tells them)\n" ∷ [])

-- why processes with one operation are in one team
abbrev pub alike_line : ℕ → List ℕ
alike_line n =
    if n == 2
    then codes "  Two processes with one operation cannot tell either: done twice in a row, it gets the same response both times.\n"
    else codes "  Processes with one operation are in one team: a third one sees the same, whichever of them is first.\n"

-- that n processes are one team, by so many joins
abbrev pub one_team_line : ℕ → ℕ → List ℕ
one_team_line count n =
    if count == 0 then []
    else concat (codes "  From each state, the joins whose runs " ∷ decimal n
    ∷ codes " processes can do put all of them into one team; operations that lead from each state to the same one count as one.\n" ∷ [])

-- that no protocol does it for n processes
abbrev pub theorem_line : ℕ → List ℕ
theorem_line n =
    concat (codes "No protocol at all does it for " ∷ decimal n
    ∷ codes ": this is proved (docs/PROVED.md).\n" ∷ [])

-- why the number is not n
abbrev pub joins_text : TypeTable → Bool → ℕ → List Join → List ℕ
joins_text t all n joins =
    concat (codes "Why not " ∷ decimal n ∷ codes ": " ∷ count_words (length joins)
    ∷ flat_map (join_line t) (told all joins) ∷ more_line (untold all joins) ∷ alike_line n
    ∷ one_team_line (length joins) n ∷ theorem_line n ∷ [])

-- without an upper bound: every number is shown, or there are no joins
abbrev pub open_line : Option ℕ → List ℕ
open_line None = codes "It is so for each number of processes: this is proved (docs/PROVED.md).\n"
open_line (Some n) = codes "The certificate shows no upper bound.\n"

-- why the number is no more than the upper bound, if there is one
abbrev pub most_text : TypeTable → Bool → Option ℕ → Option ℕ → Option (List Join) → List ℕ
most_text t all at_least None most = open_line at_least
most_text t all at_least (Some m) None = open_line at_least
most_text t all at_least (Some m) (Some joins) = joins_text t all (m + 1) joins
