-- What explanations of both kinds of numbers say: the number and the table, the line of a witness, and
-- the words around the ways.
use Rattle.std.specs.Prelude.{ℕ, List, [], ◌++◌, ◌==◌, codes, Bool, false, if◌then◌else◌, nat_lt}
use Rattle.std.specs.Fmt.{decimal}
use Rattle.cn_table.specs.Names.{name_at}
use Rattle.cn_table.specs.TypeTable.{TypeTable}
use Rattle.cn_table.specs.declared.elements.State.{State}
use Rattle.cn_search.specs.declared.exact.ConsensusNumber.{ConsensusNumber}
use Rattle.cn_search.specs.declared.exact.ConsensusNumber.TheVariants.{Finite, Infinite}
use Rattle.cn_reasons.specs.declared.group.ChoiceGroups.{ChoiceGroups}
use Rattle.cn_sentences.specs.Groups.{members}
use Rattle.cn_sentences.specs.States.{states_told}
use Rattle.cn_text.specs.Folded.{folded}
use Rattle.cn_text.specs.Grid.{cells_text}
use Rattle.cn_text.specs.declared.reasons.NumberKind.{NumberKind}
use Rattle.cn_text.specs.declared.reasons.NumberKind.TheVariants.{Readable, Recoverable, Unread}

-- ---- the number

abbrev pub kind_words : NumberKind → List ℕ
kind_words Readable = codes "consensus number"
kind_words Recoverable = codes "recoverable consensus number"
kind_words Unread = codes "consensus number without reads"

-- what the processes can do, for which the number is
abbrev pub readers : NumberKind → List ℕ
readers Readable = codes "can read the whole state"
readers Recoverable = codes "can read the whole state"
readers Unread = codes "have these operations alone"

-- the name of the type, the kind of number, and the number in words
unfoldable pub number_line : TypeTable → NumberKind → List ℕ → List ℕ
number_line t kind words =
    t.name ++ (codes ": " ++ (kind_words kind ++ (codes " " ++ (words
    ++ (codes " (for processes that " ++ (readers kind ++ (codes ")\n" ++ [])))))))

unfoldable pub start_text : TypeTable → NumberKind → List ℕ → List ℕ
start_text t kind words =
    folded (number_line t kind words) ++ (codes "\n" ++ (cells_text t ++ (codes "\n" ++ [])))

-- ---- why it is so much

abbrev pub is_exactly : ConsensusNumber → ℕ → Bool
is_exactly (Finite n) m = n == m
is_exactly Infinite m = false

-- for how many processes the witness is
unfoldable pub said_for : ℕ → List ℕ
said_for m = codes "For " ++ (decimal m ++ (codes " processes, say:\n" ++ []))

-- the same, where the number is another one
abbrev pub example_line : ConsensusNumber → ℕ → List ℕ
example_line number m = if is_exactly number m then [] else said_for m

unfoldable pub witness_line : TypeTable → ℕ → ChoiceGroups → List ℕ
witness_line t n c =
    codes "Why " ++ (decimal n ++ (codes ": from state " ++ (name_at t.states c.start.0
    ++ (codes ", " ++ (members t (codes " (team A)") c.a.items ++ (codes ", "
    ++ (members t (codes " (team B)") c.b.items ++ (codes ".\n" ++ []))))))))

-- the operation of a single process, and that of all others, with words for their teams
unfoldable pub single_line : List ℕ → List ℕ → List ℕ → List ℕ → List ℕ → List ℕ
single_line start single team many others =
    codes "Why infinite: from state " ++ (start ++ (codes ", one process" ++ (team
    ++ (codes " does " ++ (single ++ (codes ", and any number of others" ++ (others
    ++ (codes " do " ++ (many ++ (codes ".\n" ++ []))))))))))

-- the states that are left if this was first
unfoldable pub states_line : TypeTable → List ℕ → List ℕ → List State → List ℕ
states_line t first when states =
    codes "  " ++ (first ++ (when ++ (codes ": the state is one of" ++ (states_told t states
    ++ (codes "\n" ++ [])))))

-- ---- why it is no more

-- that no protocol of this kind does it for n processes
unfoldable pub theorem_line : List ℕ → ℕ → List ℕ
theorem_line kind n = codes "No protocol " ++ (kind ++ (codes " does it for "
    ++ (decimal n ++ (codes ": this is proved (docs/PROVED.md).\n" ++ []))))

unfoldable pub no_list : ℕ → List ℕ
no_list n = codes "Why not " ++ (decimal n ++ (codes ": its ways are not listed here.\n"
    ++ (theorem_line (codes "at all") n ++ [])))

-- why not n, of a type with fewer states of which no two operations last
unfoldable pub few_states : ℕ → ℕ → List ℕ
few_states n states = codes "Why not " ++ (decimal n ++ (codes ": it has " ++ (decimal states
    ++ (codes " states and no two operations that last.\n" ++ (theorem_line (codes "at all") n ++ [])))))

-- why a finite number is not n: that n is above the number of states, or that it is not listed
abbrev pub not_listed : ℕ → ℕ → List ℕ
not_listed states n = if nat_lt states n then few_states n states else no_list n

abbrev pub each_number_line : List ℕ
each_number_line = codes "It is so for each number of processes: this is proved (docs/PROVED.md).\n"

-- the number of ways, in each of which there is something that does not tell
unfoldable pub ways_words : List ℕ → ℕ → List ℕ
ways_words untold count =
    if count == 0 then codes "no way to choose a start state, operations and teams is left.\n"
    else (if count == 1
    then codes "1 way to choose a start state, operations and teams; in it " ++ (untold ++ (codes ".\n" ++ []))
    else decimal count ++ (codes " ways to choose a start state, operations and teams; in each "
    ++ (untold ++ (codes ".\n" ++ []))))

-- the number of ways that are not told
unfoldable pub more_line : ℕ → List ℕ
more_line more = if more == 0 then []
    else codes "  and " ++ (decimal more ++ (codes " more (--all tells them)\n" ++ []))

-- the ways that a list of this version leaves out
abbrev pub left_out : ℕ → List ℕ
left_out version =
    if version == 1 then []
    else codes "  Ways in which an operation leaves the start state unchanged cannot work, and are left out.\n"

-- the ways that count as one
abbrev pub same_ways : List ℕ
same_ways =
    codes "  Ways that differ only in the numbers of the processes or the names of the teams count as one.\n"

-- what is left out behind the ways
unfoldable pub ways_notes : ℕ → ℕ → List ℕ
ways_notes more version = more_line more ++ (same_ways ++ (left_out version ++ []))

-- the same, and that no protocol does it for n processes
unfoldable pub ways_end : ℕ → ℕ → ℕ → List ℕ
ways_end more version n = ways_notes more version ++ (theorem_line (codes "at all") n ++ [])
