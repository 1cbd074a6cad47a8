-- The text of a fault: its number, its name, and the number of the process or of the entry.
use Rattle.std.specs.Prelude.{ℕ, List, Option, Some, None, codes}
use Rattle.cn_table.specs.FaultText.{numbered_text}
use Rattle.cn_check.specs.declared.fault.CheckFault.{CheckFault}
use Rattle.cn_check.specs.declared.fault.CheckFault.TheVariants.{OtherType, BadNumber, WitnessShape}
use Rattle.cn_check.specs.declared.fault.CheckFault.TheVariants.{WitnessMeets, Unexpected, NotNext}
use Rattle.cn_check.specs.declared.fault.CheckFault.TheVariants.{NotACollision, TooFew}

abbrev pub check_fault_number : CheckFault → ℕ
check_fault_number OtherType = 1
check_fault_number BadNumber = 2
check_fault_number WitnessShape = 3
check_fault_number (WitnessMeets process) = 4
check_fault_number Unexpected = 5
check_fault_number (NotNext place) = 6
check_fault_number (NotACollision place) = 7
check_fault_number TooFew = 8

abbrev pub check_fault_name : CheckFault → List ℕ
check_fault_name OtherType = codes "OtherType"
check_fault_name BadNumber = codes "BadNumber"
check_fault_name WitnessShape = codes "WitnessShape"
check_fault_name (WitnessMeets process) = codes "WitnessMeets"
check_fault_name Unexpected = codes "Unexpected"
check_fault_name (NotNext place) = codes "NotNext"
check_fault_name (NotACollision place) = codes "NotACollision"
check_fault_name TooFew = codes "TooFew"

abbrev pub check_fault_index : CheckFault → Option ℕ
check_fault_index OtherType = None
check_fault_index BadNumber = None
check_fault_index WitnessShape = None
check_fault_index (WitnessMeets process) = Some process
check_fault_index Unexpected = None
check_fault_index (NotNext place) = Some place
check_fault_index (NotACollision place) = Some place
check_fault_index TooFew = None

abbrev pub check_fault_text : CheckFault → List ℕ
check_fault_text fault =
    numbered_text (check_fault_number fault) (check_fault_name fault) (check_fault_index fault)
