-- The text of a fault: its number and its name.
use Rattle.std.specs.Prelude.{ℕ, List, None, codes}
use Rattle.cn_table.specs.FaultText.{numbered_text}
use Rattle.cn_unread_cert.specs.declared.fault.UnreadCertFault.{UnreadCertFault}
use Rattle.cn_unread_cert.specs.declared.fault.UnreadCertFault.TheVariants.{NotJson, OutOfMemory, Range}
use Rattle.cn_unread_cert.specs.declared.fault.UnreadCertFault.TheVariants.{Version, WrongShape}

abbrev pub unread_cert_fault_number : UnreadCertFault → ℕ
unread_cert_fault_number NotJson = 1
unread_cert_fault_number WrongShape = 2
unread_cert_fault_number Version = 3
unread_cert_fault_number Range = 4
unread_cert_fault_number OutOfMemory = 5

abbrev pub unread_cert_fault_name : UnreadCertFault → List ℕ
unread_cert_fault_name NotJson = codes "NotJson"
unread_cert_fault_name WrongShape = codes "WrongShape"
unread_cert_fault_name Version = codes "Version"
unread_cert_fault_name Range = codes "Range"
unread_cert_fault_name OutOfMemory = codes "OutOfMemory"

abbrev pub unread_cert_fault_text : UnreadCertFault → List ℕ
unread_cert_fault_text fault =
    numbered_text (unread_cert_fault_number fault) (unread_cert_fault_name fault) None
