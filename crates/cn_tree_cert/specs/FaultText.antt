-- The text of a fault: its number and its name.
use Rattle.std.specs.Prelude.{ℕ, List, None, codes}
use Rattle.cn_table.specs.FaultText.{numbered_text}
use Rattle.cn_tree_cert.specs.declared.fault.TreeCertFault.{TreeCertFault}
use Rattle.cn_tree_cert.specs.declared.fault.TreeCertFault.TheVariants.{NotJson, OutOfMemory, Range}
use Rattle.cn_tree_cert.specs.declared.fault.TreeCertFault.TheVariants.{Version, WrongShape}

abbrev pub tree_cert_fault_number : TreeCertFault → ℕ
tree_cert_fault_number NotJson = 1
tree_cert_fault_number WrongShape = 2
tree_cert_fault_number Version = 3
tree_cert_fault_number Range = 4
tree_cert_fault_number OutOfMemory = 5

abbrev pub tree_cert_fault_name : TreeCertFault → List ℕ
tree_cert_fault_name NotJson = codes "NotJson"
tree_cert_fault_name WrongShape = codes "WrongShape"
tree_cert_fault_name Version = codes "Version"
tree_cert_fault_name Range = codes "Range"
tree_cert_fault_name OutOfMemory = codes "OutOfMemory"

abbrev pub tree_cert_fault_text : TreeCertFault → List ℕ
tree_cert_fault_text fault =
    numbered_text (tree_cert_fault_number fault) (tree_cert_fault_name fault) None
