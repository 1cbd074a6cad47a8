-- What JSON tells of the faults of a certificate of a plan tree.
use Rattle.serde_json.specs.Data.{Data}
use Rattle.cn_tree_cert.specs.FaultText.{tree_cert_fault_name, tree_cert_fault_number}
use Rattle.cn_tree_cert.specs.declared.fault.TreeCertFault.{TreeCertFault}
use Rattle.cn_tree_check.specs.FaultText.{tree_fault_name, tree_fault_number}
use Rattle.cn_tree_check.specs.declared.fault.TreeCheckFault.{TreeCheckFault}
use Rattle.cn_tree_check.specs.declared.fault.TreeCheckFault.TheVariants.{Meets}
use Rattle.cn_json.specs.TreeVerdict.{fault_at_node}
use Rattle.cn_json.specs.Verdict.{named_fault, refused_data}

-- a certificate that could not be read
abbrev pub tree_unread_data : TreeCertFault → Data
tree_unread_data fault =
    refused_data (named_fault (tree_cert_fault_name fault) (tree_cert_fault_number fault))

-- a fault of the check: its name, its number, and the node and the process that have it
abbrev pub tree_fault_data : TreeCheckFault → Data
tree_fault_data (Meets v p) =
    fault_at_node (tree_fault_name (Meets v p)) (tree_fault_number (Meets v p)) v p
tree_fault_data fault = named_fault (tree_fault_name fault) (tree_fault_number fault)
