-- The text of a fault: its number, its name, and the place in the schedule.
use Rattle.std.specs.Prelude.{ℕ, List, codes, Option, Some, None}
use Rattle.cn_table.specs.FaultText.{numbered_text}
use Rattle.cn_agree.specs.declared.fault.ScheduleFault.{ScheduleFault}
use Rattle.cn_agree.specs.declared.fault.ScheduleFault.TheVariants.{InputCount, NoSuchProcess}
use Rattle.cn_agree.specs.declared.fault.ScheduleFault.TheVariants.{OutOfMemory}

abbrev pub schedule_fault_number : ScheduleFault → ℕ
schedule_fault_number InputCount = 1
schedule_fault_number (NoSuchProcess place) = 2
schedule_fault_number OutOfMemory = 3

abbrev pub schedule_fault_name : ScheduleFault → List ℕ
schedule_fault_name InputCount = codes "InputCount"
schedule_fault_name (NoSuchProcess place) = codes "NoSuchProcess"
schedule_fault_name OutOfMemory = codes "OutOfMemory"

abbrev pub schedule_fault_place : ScheduleFault → Option ℕ
schedule_fault_place InputCount = None
schedule_fault_place (NoSuchProcess place) = Some place
schedule_fault_place OutOfMemory = None

abbrev pub schedule_fault_text : ScheduleFault → List ℕ
schedule_fault_text fault = numbered_text (schedule_fault_number fault) (schedule_fault_name fault)
    (schedule_fault_place fault)
