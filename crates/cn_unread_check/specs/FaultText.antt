-- The text of a fault: its number and its name.
use Rattle.std.specs.Prelude.{ℕ, List, None, codes}
use Rattle.cn_table.specs.FaultText.{numbered_text}
use Rattle.cn_unread_check.specs.declared.fault.UnreadCheckFault.{UnreadCheckFault}
use Rattle.cn_unread_check.specs.declared.fault.UnreadCheckFault.TheVariants.{BadNumber, Least, Most}
use Rattle.cn_unread_check.specs.declared.fault.UnreadCheckFault.TheVariants.{OtherType, OutOfMemory}
use Rattle.cn_unread_check.specs.declared.fault.UnreadCheckFault.TheVariants.{TooManyScenes}

abbrev pub unread_fault_number : UnreadCheckFault → ℕ
unread_fault_number OtherType = 1
unread_fault_number BadNumber = 2
unread_fault_number Least = 3
unread_fault_number Most = 4
unread_fault_number TooManyScenes = 5
unread_fault_number OutOfMemory = 6

abbrev pub unread_fault_name : UnreadCheckFault → List ℕ
unread_fault_name OtherType = codes "OtherType"
unread_fault_name BadNumber = codes "BadNumber"
unread_fault_name Least = codes "Least"
unread_fault_name Most = codes "Most"
unread_fault_name TooManyScenes = codes "TooManyScenes"
unread_fault_name OutOfMemory = codes "OutOfMemory"

abbrev pub unread_fault_text : UnreadCheckFault → List ℕ
unread_fault_text fault = numbered_text (unread_fault_number fault) (unread_fault_name fault) None
