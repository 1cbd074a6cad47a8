-- The text of a fault: its number and name.
use Rattle.std.specs.Prelude.{ℕ, List, None, codes}
use Rattle.cn_table.specs.FaultText.{numbered_text}
use Rattle.cn_hall.specs.declared.call.CallFault.{CallFault}
use Rattle.cn_hall.specs.declared.opening.OpenFault.{OpenFault}
use Rattle.cn_hall.specs.declared.opening.OpenFault.TheVariants.{OutOfMemory as OutOfCore}
use Rattle.cn_hall.specs.declared.call.CallFault.TheVariants.{LogFull, Stopped}

abbrev pub call_fault_number : CallFault → ℕ
call_fault_number LogFull = 1
call_fault_number Stopped = 2

abbrev pub call_fault_name : CallFault → List ℕ
call_fault_name LogFull = codes "LogFull"
call_fault_name Stopped = codes "Stopped"

abbrev pub call_fault_text : CallFault → List ℕ
call_fault_text fault = numbered_text (call_fault_number fault) (call_fault_name fault) None

abbrev pub open_fault_number : OpenFault → ℕ
open_fault_number (OutOfCore core) = 1

abbrev pub open_fault_name : OpenFault → List ℕ
open_fault_name (OutOfCore core) = codes "OutOfMemory"

abbrev pub open_fault_text : OpenFault → List ℕ
open_fault_text fault = numbered_text (open_fault_number fault) (open_fault_name fault) None
