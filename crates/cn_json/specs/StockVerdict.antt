-- The verdict on a certificate by stocks as a JSON value.
use Rattle.std.specs.Prelude.{ℕ, List, codes}
use Rattle.serde_json.specs.Data.{Data, object, member, no_members}
use Rattle.cn_stock_check.specs.FaultText.{stock_check_fault_name, stock_check_fault_number}
use Rattle.cn_stock_check.specs.declared.fault.StockCheckFault.{StockCheckFault}
use Rattle.cn_stock_check.specs.declared.fault.StockCheckFault.TheVariants as fault
use Rattle.cn_json.specs.Values.{number_data, text_data}
use Rattle.cn_json.specs.Verdict.{named_fault}

-- a fault of the join at a place
abbrev pub fault_of_join : ℕ → List ℕ → ℕ → Data
fault_of_join place name number =
    object (member (codes "join") (number_data place)
    (member (codes "name") (text_data name)
    (member (codes "number") (number_data number) no_members)))

-- a fault of an operation or of a state, by the key for it
abbrev pub fault_at_key : List ℕ → List ℕ → ℕ → ℕ → Data
fault_at_key key name number item =
    object (member (codes "name") (text_data name)
    (member (codes "number") (number_data number)
    (member key (number_data item) no_members)))

-- a fault: its name, its number, and the join, the operation or the state that has it
abbrev pub stock_fault_data : StockCheckFault → Data
stock_fault_data (fault.NotAJoin i) =
    fault_of_join i (stock_check_fault_name (fault.NotAJoin i))
    (stock_check_fault_number (fault.NotAJoin i))
stock_fault_data (fault.NoticesItself o) =
    fault_at_key (codes "operation") (stock_check_fault_name (fault.NoticesItself o))
    (stock_check_fault_number (fault.NoticesItself o)) o
stock_fault_data (fault.NotConnected q) =
    fault_at_key (codes "state") (stock_check_fault_name (fault.NotConnected q))
    (stock_check_fault_number (fault.NotConnected q)) q
stock_fault_data f = named_fault (stock_check_fault_name f) (stock_check_fault_number f)
