-- The flaws of a text, or the notes of a table, as a JSON value.
use Rattle.std.specs.Prelude.{List, [], Option, None, Some, codes}
use Rattle.serde_json.specs.Data.{Data, Members, boolean, object, member, no_members}
use Rattle.cn_table.specs.FaultText.{table_fault_name, table_fault_number}
use Rattle.cn_table.specs.TypeTable.{TypeTable}
use Rattle.cn_flaws.specs.FlawPath.{PathPart}
use Rattle.cn_flaws.specs.FlawPath.PathPart.{Key, Index}
use Rattle.cn_flaws.specs.Flaws.{Flaw}
use Rattle.cn_flaws.specs.Notes.{Notes}
use Rattle.cn_flaws.specs.declared.flaw.Position.{Position}
use Rattle.cn_flaws.specs.declared.notes.IdleOperation.{IdleOperation}
use Rattle.cn_json.specs.Names.{operation_data, state_data}
use Rattle.cn_json.specs.Values.{list_data, number_data, text_data}

-- a key as a text, and an index as a number
abbrev pub part_data : PathPart → Data
part_data (Key key) = text_data key
part_data (Index i) = number_data i

-- the number of the fault of a flaw, its path and its text
abbrev pub flaw_members : Flaw → Members
flaw_members f =
    member (codes "number") (number_data (table_fault_number f.fault))
    (member (codes "path") (list_data part_data f.path)
    (member (codes "text") (text_data f.text) no_members))

-- before them the name of the fault, and the line and the column, if there are some
abbrev pub placed_data : Option Position → Flaw → Data
placed_data None f =
    object (member (codes "kind") (text_data (table_fault_name f.fault)) (flaw_members f))
placed_data (Some position) f =
    object (member (codes "column") (number_data position.column)
    (member (codes "kind") (text_data (table_fault_name f.fault))
    (member (codes "line") (number_data position.line) (flaw_members f))))

abbrev pub flaw_data : Flaw → Data
flaw_data f = placed_data f.position f

unfoldable pub flaws_data : List Flaw → Data
flaws_data flaws = object (member (codes "flaws") (list_data flaw_data flaws) no_members)

-- an operation that changes nothing, and whether its responses differ
abbrev pub idle_data : TypeTable → IdleOperation → Data
idle_data t i = object (member (codes "answers") (boolean i.answers)
    (member (codes "operation") (operation_data t i.operation) no_members))

-- no flaws, and the notes of the table
unfoldable pub notes_data : TypeTable → Notes → Data
notes_data t notes = object (member (codes "flaws") (list_data flaw_data [])
    (member (codes "idle") (list_data (idle_data t) notes.idle)
    (member (codes "unreached") (list_data (state_data t) notes.unreached) no_members)))
