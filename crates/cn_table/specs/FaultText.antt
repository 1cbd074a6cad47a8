-- The texts of faults that have numbers.
use Rattle.std.specs.Prelude.{ℕ, List, ◌++◌, Option, Some, None, codes}
use Rattle.std.specs.Fmt.{decimal}
use Rattle.cn_table.specs.declared.fault.TableFault.{TableFault}
use Rattle.cn_table.specs.declared.fault.TableFault.TheVariants.{NotToml, UnknownKey, MissingKey}
use Rattle.cn_table.specs.declared.fault.TableFault.TheVariants.{WrongKind, BadName}
use Rattle.cn_table.specs.declared.fault.TableFault.TheVariants.{Count, Repeated, RowLength}
use Rattle.cn_table.specs.declared.fault.TableFault.TheVariants.{UnknownName, OutOfMemory}

-- a fault's number, its name, and the number that it carries, if any, with one space between two
abbrev pub numbered_text : ℕ → List ℕ → Option ℕ → List ℕ
numbered_text number name None = decimal number ++ codes " " ++ name
numbered_text number name (Some x) = decimal number ++ codes " " ++ name ++ codes " " ++ decimal x

abbrev pub table_fault_number : TableFault → ℕ
table_fault_number NotToml = 1
table_fault_number UnknownKey = 2
table_fault_number MissingKey = 3
table_fault_number WrongKind = 4
table_fault_number BadName = 5
table_fault_number Count = 6
table_fault_number Repeated = 7
table_fault_number RowLength = 8
table_fault_number UnknownName = 9
table_fault_number OutOfMemory = 10

abbrev pub table_fault_name : TableFault → List ℕ
table_fault_name NotToml = codes "NotToml"
table_fault_name UnknownKey = codes "UnknownKey"
table_fault_name MissingKey = codes "MissingKey"
table_fault_name WrongKind = codes "WrongKind"
table_fault_name BadName = codes "BadName"
table_fault_name Count = codes "Count"
table_fault_name Repeated = codes "Repeated"
table_fault_name RowLength = codes "RowLength"
table_fault_name UnknownName = codes "UnknownName"
table_fault_name OutOfMemory = codes "OutOfMemory"

abbrev pub table_fault_text : TableFault → List ℕ
table_fault_text fault = numbered_text (table_fault_number fault) (table_fault_name fault) None
