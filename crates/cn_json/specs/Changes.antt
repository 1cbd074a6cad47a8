-- The numbers of a type with other entries as JSON values.
use Rattle.std.specs.Prelude.{List, [], All, Option, Some, None, codes}
use Rattle.serde_json.specs.Data.{Data, boolean, object, member, no_members}
use Rattle.cn_table.specs.TypeTable.{TypeTable}
use Rattle.cn_unread_number.specs.declared.bounds.NumberBounds.{NumberBounds}
use Rattle.cn_changes.specs.Changes.{IsChange, IsTarget}
use Rattle.cn_changes.specs.Told.{agreed}
use Rattle.cn_changes.specs.declared.change.Change.{Change}
use Rattle.cn_changes.specs.declared.changes.Changes.{Changes}
use Rattle.cn_changes.specs.declared.kind.NumberKind.{NumberKind}
use Rattle.cn_changes.specs.declared.kind.NumberKind.TheVariants.{Consensus, Recoverable, WithoutReads}
use Rattle.cn_changes.specs.declared.numbers.ChangeNumber.{ChangeNumber}
use Rattle.cn_changes.specs.declared.numbers.NextNumbers.{NextNumbers}
use Rattle.cn_changes.specs.declared.pairs.PairNumber.{PairNumber}
use Rattle.cn_changes.specs.declared.pairs.PairNumbers.{PairNumbers}
use Rattle.cn_json.specs.Names.{operation_data, response_data, state_data}
use Rattle.cn_json.specs.Numbers.{bounds_data}
use Rattle.cn_json.specs.Values.{list_data, option_data, text_data}

-- the changes are those of the table
abbrev pub IsKnownResponse : TypeTable → ChangeNumber → Type 0
IsKnownResponse t r = IsChange t r.change

abbrev pub IsKnownNext : TypeTable → NextNumbers → Type 0
IsKnownNext t x = IsTarget t x.target × All (IsKnownResponse t) x.numbers.items

abbrev pub IsKnownPair : TypeTable → PairNumber → Type 0
IsKnownPair t p = IsChange t p.pair.first × IsChange t p.pair.second

abbrev pub AreKnownPairs : TypeTable → PairNumbers → Type 0
AreKnownPairs t p = All (IsKnownPair t) p.raising.items

-- a response, and the number with it
abbrev pub response_number_data : TypeTable → ChangeNumber → Data
response_number_data t r = object (member (codes "number") (bounds_data r.number)
    (member (codes "response") (response_data t r.change.response) no_members))

-- the responses with their numbers: none if all have one number
abbrev pub told_responses : List ChangeNumber → Option NumberBounds → List ChangeNumber
told_responses numbers None = numbers
told_responses numbers (Some number) = []

-- an entry and a next state: the number, if it is the same with each response, and else the responses
unfoldable pub next_data : TypeTable → NextNumbers → Data
next_data t x = object (member (codes "next") (state_data t x.target.next)
    (member (codes "number") (option_data bounds_data (agreed x.numbers.items))
    (member (codes "operation") (operation_data t x.target.operation)
    (member (codes "responses") (list_data (response_number_data t)
    (told_responses x.numbers.items (agreed x.numbers.items)))
    (member (codes "state") (state_data t x.target.state) no_members)))))

-- a change of one entry
abbrev pub change_data : TypeTable → Change → Data
change_data t c = object (member (codes "next") (state_data t c.target.next)
    (member (codes "operation") (operation_data t c.target.operation)
    (member (codes "response") (response_data t c.response)
    (member (codes "state") (state_data t c.target.state) no_members))))

-- two changes, and the number with both
unfoldable pub pair_data : TypeTable → PairNumber → Data
pair_data t p = object (member (codes "first") (change_data t p.pair.first)
    (member (codes "number") (bounds_data p.number)
    (member (codes "second") (change_data t p.pair.second) no_members)))

-- the pairs that raise the number, and whether not all were tried
unfoldable pub pair_numbers_data : TypeTable → PairNumbers → Data
pair_numbers_data t p = object (member (codes "cut") (boolean p.is_cut)
    (member (codes "raising") (list_data (pair_data t) p.raising.items) no_members))

abbrev pub kind_data : NumberKind → Data
kind_data Consensus = text_data (codes "consensus")
kind_data Recoverable = text_data (codes "recoverable")
kind_data WithoutReads = text_data (codes "without_read")

-- the type, its number, those with each other entry, and the pairs if they were tried
unfoldable pub changes_data : TypeTable → Changes → Option PairNumbers → Data
changes_data t c pairs = object (member (codes "changes") (list_data (next_data t) c.nexts.items)
    (member (codes "kind") (kind_data c.kind)
    (member (codes "name") (text_data t.name)
    (member (codes "number") (bounds_data c.number)
    (member (codes "pairs") (option_data (pair_numbers_data t) pairs) no_members)))))
