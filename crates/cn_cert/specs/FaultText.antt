-- The text of a fault: its number and its name.
use Rattle.std.specs.Prelude.{ℕ, List, None, codes}
use Rattle.cn_table.specs.FaultText.{numbered_text}
use Rattle.cn_cert.specs.declared.fault.CertFault.{CertFault}
use Rattle.cn_cert.specs.declared.fault.CertFault.TheVariants.{NotJson, WrongShape, Version, Range}
use Rattle.cn_cert.specs.declared.fault.CertFault.TheVariants.{OutOfMemory}

abbrev pub cert_fault_number : CertFault → ℕ
cert_fault_number NotJson = 1
cert_fault_number WrongShape = 2
cert_fault_number Version = 3
cert_fault_number Range = 4
cert_fault_number OutOfMemory = 5

abbrev pub cert_fault_name : CertFault → List ℕ
cert_fault_name NotJson = codes "NotJson"
cert_fault_name WrongShape = codes "WrongShape"
cert_fault_name Version = codes "Version"
cert_fault_name Range = codes "Range"
cert_fault_name OutOfMemory = codes "OutOfMemory"

abbrev pub cert_fault_text : CertFault → List ℕ
cert_fault_text fault = numbered_text (cert_fault_number fault) (cert_fault_name fault) None
