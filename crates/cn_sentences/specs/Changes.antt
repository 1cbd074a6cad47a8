-- Changes of a type that raise its number, in words.
use Rattle.std.specs.Prelude.{codes, ℕ, ◌==◌, List, [], ◌++◌, length, flat_map, Bool, if◌then◌else◌}
use Rattle.std.specs.Prelude.{Option, Some, None}
use Rattle.std.specs.Fmt.{decimal}
use Rattle.cn_table.specs.Names.{name_at}
use Rattle.cn_table.specs.TypeTable.{TypeTable, operation_names}
use Rattle.cn_table.specs.declared.elements.Response.{Response}
use Rattle.cn_unread_number.specs.BoundsText.{bounds_text}
use Rattle.cn_changes.specs.Raises.{raises_of}
use Rattle.cn_changes.specs.declared.change.Change.{Change}
use Rattle.cn_changes.specs.declared.changes.Changes.{Changes}
use Rattle.cn_changes.specs.declared.kind.NumberKind.{NumberKind}
use Rattle.cn_changes.specs.declared.kind.NumberKind.TheVariants.{Consensus, Recoverable, WithoutReads}
use Rattle.cn_changes.specs.declared.pairs.PairNumber.{PairNumber}
use Rattle.cn_changes.specs.declared.pairs.PairNumbers.{PairNumbers}
use Rattle.cn_changes.specs.declared.pairs.TheConstants.{MOST_PAIRS}
use Rattle.cn_changes.specs.declared.raises.Raise.{Raise}
use Rattle.cn_changes.specs.declared.targets.Target.{Target}

-- the words for the number that is told
abbrev pub kind_words : NumberKind → List ℕ
kind_words Consensus = []
kind_words Recoverable = codes "recoverable "
kind_words WithoutReads = codes "without read "

-- the line of the type: its name, and the number
unfoldable pub changes_head : TypeTable → Changes → List ℕ
changes_head t c = t.name ++ (codes ": " ++ (kind_words c.kind
    ++ (bounds_text c.number ++ (codes "\n" ++ []))))

-- an entry leads to a next state
unfoldable pub target_words : TypeTable → Target → List ℕ
target_words t x = name_at (operation_names t) x.operation.0 ++ (codes " in "
    ++ (name_at t.states x.state.0 ++ (codes " leads to " ++ (name_at t.states x.next.0 ++ []))))

-- and it gives a response, if that matters
unfoldable pub response_words : TypeTable → Response → List ℕ
response_words t r = codes " and answers " ++ (name_at t.responses r.0 ++ [])

abbrev pub answer_words : TypeTable → Option Response → List ℕ
answer_words t None = []
answer_words t (Some r) = response_words t r

unfoldable pub change_words : TypeTable → Change → List ℕ
change_words t c = target_words t c.target ++ response_words t c.response

-- a line for a change that raises the number, behind a mark
unfoldable pub raise_line : List ℕ → TypeTable → Raise → List ℕ
raise_line mark t r = mark ++ (bounds_text r.number ++ (codes " if " ++ []))
    ++ target_words t r.target ++ answer_words t r.response ++ (codes ".\n" ++ [])

-- a line for two changes at once
unfoldable pub pair_line : List ℕ → TypeTable → PairNumber → List ℕ
pair_line mark t p = mark ++ (bounds_text p.number ++ (codes " if " ++ []))
    ++ change_words t p.pair.first ++ (codes ", and " ++ []) ++ change_words t p.pair.second
    ++ (codes ".\n" ++ [])

-- the lines for the changes that raise the number, or one line that there are none
unfoldable pub raise_lines : List ℕ → TypeTable → List Raise → List ℕ
raise_lines mark t raises = if length raises == 0
    then mark ++ (codes "No change of one entry raises the number.\n" ++ [])
    else flat_map (raise_line mark t) raises

-- the line that says how far changes of two entries were tried
abbrev pub cut_line : List ℕ → Bool → List ℕ
cut_line mark is_cut = if is_cut
    then mark ++ (codes "Of the changes of two entries the first " ++ (decimal MOST_PAIRS
    ++ (codes " were tried.\n" ++ []))) else []

abbrev pub pair_lines : List ℕ → TypeTable → Option PairNumbers → List ℕ
pair_lines mark t None = []
pair_lines mark t (Some p) = (if length p.raising.items == 0
    then mark ++ (codes "No change of two entries raises the number.\n" ++ [])
    else flat_map (pair_line mark t) p.raising.items) ++ cut_line mark p.is_cut

-- what raises the number
abbrev pub change_lines : List ℕ → TypeTable → Changes → Option PairNumbers → List ℕ
change_lines mark t c pairs =
    raise_lines mark t (raises_of c.number c.nexts.items) ++ pair_lines mark t pairs
