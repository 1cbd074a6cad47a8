-- The text of a fault: its number and its name.
use Rattle.std.specs.Prelude.{ℕ, List, None, codes}
use Rattle.cn_table.specs.FaultText.{numbered_text}
use Rattle.cn_stock_cert.specs.declared.fault.StockCertFault.{StockCertFault}
use Rattle.cn_stock_cert.specs.declared.fault.StockCertFault.TheVariants.{NotJson, OutOfMemory, Range}
use Rattle.cn_stock_cert.specs.declared.fault.StockCertFault.TheVariants.{Version, WrongShape}

abbrev pub stock_cert_fault_number : StockCertFault → ℕ
stock_cert_fault_number NotJson = 1
stock_cert_fault_number WrongShape = 2
stock_cert_fault_number Version = 3
stock_cert_fault_number Range = 4
stock_cert_fault_number OutOfMemory = 5

abbrev pub stock_cert_fault_name : StockCertFault → List ℕ
stock_cert_fault_name NotJson = codes "NotJson"
stock_cert_fault_name WrongShape = codes "WrongShape"
stock_cert_fault_name Version = codes "Version"
stock_cert_fault_name Range = codes "Range"
stock_cert_fault_name OutOfMemory = codes "OutOfMemory"

abbrev pub stock_cert_fault_text : StockCertFault → List ℕ
stock_cert_fault_text fault =
    numbered_text (stock_cert_fault_number fault) (stock_cert_fault_name fault) None
