-- The numbers of sets of operations as JSON values.
use Rattle.std.specs.Prelude.{◌<◌, List, All, Vec, codes, length}
use Rattle.std.specs.declared.alloc.Global.{Global}
use Rattle.serde_json.specs.Data.{Data, object, member, no_members}
use Rattle.cn_table.specs.TypeTable.{TypeTable}
use Rattle.cn_table.specs.declared.elements.Operation.{Operation}
use Rattle.cn_pairs.specs.declared.pairs.Pairs.{Pairs}
use Rattle.cn_pairs.specs.declared.restricted.SetNumber.{SetNumber}
use Rattle.cn_json.specs.Names.{operation_data}
use Rattle.cn_json.specs.Numbers.{exact_data}
use Rattle.cn_json.specs.Values.{list_data, text_data}

-- the operations are those of the table
abbrev pub AreKnown : TypeTable → List Operation → Type 0
AreKnown t operations = All (λ o. o.0 < length t.operations) operations

-- a set of operations, by their names
abbrev pub set_data : TypeTable → Vec Operation Global → Data
set_data t set = list_data (operation_data t) set.items

-- a set of operations, and the number of the type with these operations alone
abbrev pub set_number_data : TypeTable → SetNumber → Data
set_number_data t s =
    object (member (codes "number") (exact_data s.number)
    (member (codes "operations") (set_data t s.operations) no_members))

-- the type, its number, those of each operation and of each pair, and the smallest sets with the
-- number of the type
unfoldable pub pairs_data : TypeTable → Pairs → Data
pairs_data t p =
    object (member (codes "alone") (list_data (set_number_data t) p.alone.items)
    (member (codes "name") (text_data t.name)
    (member (codes "number") (exact_data p.number)
    (member (codes "pairs") (list_data (set_number_data t) p.pairs.items)
    (member (codes "smallest") (list_data (set_data t) p.smallest.items) no_members)))))
