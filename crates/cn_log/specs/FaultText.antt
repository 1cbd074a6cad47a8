-- The text of a fault: its number, its name, and the place of the event in the list.
use Rattle.std.specs.Prelude.{ℕ, List, codes, Option, Some, None}
use Rattle.cn_table.specs.FaultText.{numbered_text}
use Rattle.cn_log.specs.declared.fault.ReplayFault.{ReplayFault}
use Rattle.cn_log.specs.declared.fault.ReplayFault.TheVariants.{NoSuchProcess, NoSuchOperation}
use Rattle.cn_log.specs.declared.fault.ReplayFault.TheVariants.{NotIdle, Idle, AtEnd, OutOfMemory}

abbrev pub replay_fault_number : ReplayFault → ℕ
replay_fault_number (NoSuchProcess place) = 1
replay_fault_number (NoSuchOperation place) = 2
replay_fault_number (NotIdle place) = 3
replay_fault_number (Idle place) = 4
replay_fault_number (AtEnd place) = 5
replay_fault_number OutOfMemory = 6

abbrev pub replay_fault_name : ReplayFault → List ℕ
replay_fault_name (NoSuchProcess place) = codes "NoSuchProcess"
replay_fault_name (NoSuchOperation place) = codes "NoSuchOperation"
replay_fault_name (NotIdle place) = codes "NotIdle"
replay_fault_name (Idle place) = codes "Idle"
replay_fault_name (AtEnd place) = codes "AtEnd"
replay_fault_name OutOfMemory = codes "OutOfMemory"

abbrev pub replay_fault_place : ReplayFault → Option ℕ
replay_fault_place (NoSuchProcess place) = Some place
replay_fault_place (NoSuchOperation place) = Some place
replay_fault_place (NotIdle place) = Some place
replay_fault_place (Idle place) = Some place
replay_fault_place (AtEnd place) = Some place
replay_fault_place OutOfMemory = None

abbrev pub replay_fault_text : ReplayFault → List ℕ
replay_fault_text fault =
    numbered_text (replay_fault_number fault) (replay_fault_name fault) (replay_fault_place fault)
