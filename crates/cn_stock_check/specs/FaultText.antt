-- The text of a fault: its number, its name, and the number of the join, the operation or the state.
use Rattle.std.specs.Prelude.{ℕ, List, Option, Some, None, codes}
use Rattle.cn_table.specs.FaultText.{numbered_text}
use Rattle.cn_stock_check.specs.declared.fault.StockCheckFault.{StockCheckFault}
use Rattle.cn_stock_check.specs.declared.fault.StockCheckFault.TheVariants.{OtherType, BadNumber}
use Rattle.cn_stock_check.specs.declared.fault.StockCheckFault.TheVariants.{LeastShape, NotAChoice}
use Rattle.cn_stock_check.specs.declared.fault.StockCheckFault.TheVariants.{NoWitness, NotLasting}
use Rattle.cn_stock_check.specs.declared.fault.StockCheckFault.TheVariants.{MostShape, NotAJoin}
use Rattle.cn_stock_check.specs.declared.fault.StockCheckFault.TheVariants.{NoticesItself, NotConnected}
use Rattle.cn_stock_check.specs.declared.fault.StockCheckFault.TheVariants.{OutOfMemory}

abbrev pub stock_check_fault_number : StockCheckFault → ℕ
stock_check_fault_number OtherType = 1
stock_check_fault_number BadNumber = 2
stock_check_fault_number LeastShape = 3
stock_check_fault_number NotAChoice = 4
stock_check_fault_number NoWitness = 5
stock_check_fault_number NotLasting = 6
stock_check_fault_number MostShape = 7
stock_check_fault_number (NotAJoin place) = 8
stock_check_fault_number (NoticesItself operation) = 9
stock_check_fault_number (NotConnected state) = 10
stock_check_fault_number OutOfMemory = 11

abbrev pub stock_check_fault_name : StockCheckFault → List ℕ
stock_check_fault_name OtherType = codes "OtherType"
stock_check_fault_name BadNumber = codes "BadNumber"
stock_check_fault_name LeastShape = codes "LeastShape"
stock_check_fault_name NotAChoice = codes "NotAChoice"
stock_check_fault_name NoWitness = codes "NoWitness"
stock_check_fault_name NotLasting = codes "NotLasting"
stock_check_fault_name MostShape = codes "MostShape"
stock_check_fault_name (NotAJoin place) = codes "NotAJoin"
stock_check_fault_name (NoticesItself operation) = codes "NoticesItself"
stock_check_fault_name (NotConnected state) = codes "NotConnected"
stock_check_fault_name OutOfMemory = codes "OutOfMemory"

abbrev pub stock_check_fault_index : StockCheckFault → Option ℕ
stock_check_fault_index OtherType = None
stock_check_fault_index BadNumber = None
stock_check_fault_index LeastShape = None
stock_check_fault_index NotAChoice = None
stock_check_fault_index NoWitness = None
stock_check_fault_index NotLasting = None
stock_check_fault_index MostShape = None
stock_check_fault_index (NotAJoin place) = Some place
stock_check_fault_index (NoticesItself operation) = Some operation
stock_check_fault_index (NotConnected state) = Some state
stock_check_fault_index OutOfMemory = None

abbrev pub stock_check_fault_text : StockCheckFault → List ℕ
stock_check_fault_text fault =
    numbered_text (stock_check_fault_number fault) (stock_check_fault_name fault)
    (stock_check_fault_index fault)
