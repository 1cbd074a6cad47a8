-- The verdict on a certificate as a JSON value.
use Rattle.std.specs.Prelude.{ℕ, List, true, false, Result, Ok, Err, codes}
use Rattle.serde_json.specs.Data.{Data, boolean, object, member, no_members}
use Rattle.cn_cert.specs.FaultText.{cert_fault_name, cert_fault_number}
use Rattle.cn_cert.specs.declared.fault.CertFault.{CertFault}
use Rattle.cn_check.specs.FaultText.{check_fault_name, check_fault_number}
use Rattle.cn_check.specs.declared.fault.CheckFault.{CheckFault}
use Rattle.cn_check.specs.declared.fault.CheckFault.TheVariants.{OtherType, BadNumber, WitnessShape}
use Rattle.cn_check.specs.declared.fault.CheckFault.TheVariants.{WitnessMeets, Unexpected, NotNext}
use Rattle.cn_check.specs.declared.fault.CheckFault.TheVariants.{NotACollision, TooFew}
use Rattle.cn_json.specs.Values.{number_data, text_data}

-- a fault by its name and its number
abbrev pub named_fault : List ℕ → ℕ → Data
named_fault name number =
    object (member (codes "name") (text_data name)
    (member (codes "number") (number_data number) no_members))

-- a fault of the entry at a place
abbrev pub fault_of_entry : ℕ → List ℕ → ℕ → Data
fault_of_entry place name number =
    object (member (codes "entry") (number_data place)
    (member (codes "name") (text_data name)
    (member (codes "number") (number_data number) no_members)))

-- a fault of a process
abbrev pub fault_of_process : List ℕ → ℕ → ℕ → Data
fault_of_process name number process =
    object (member (codes "name") (text_data name)
    (member (codes "number") (number_data number)
    (member (codes "process") (number_data process) no_members)))

-- a fault: its name, its number, and the entry or the process that has it
abbrev pub fault_data : CheckFault → Data
fault_data OtherType = named_fault (check_fault_name OtherType) (check_fault_number OtherType)
fault_data BadNumber = named_fault (check_fault_name BadNumber) (check_fault_number BadNumber)
fault_data WitnessShape =
    named_fault (check_fault_name WitnessShape) (check_fault_number WitnessShape)
fault_data (WitnessMeets j) =
    fault_of_process (check_fault_name (WitnessMeets j)) (check_fault_number (WitnessMeets j)) j
fault_data Unexpected = named_fault (check_fault_name Unexpected) (check_fault_number Unexpected)
fault_data (NotNext i) =
    fault_of_entry i (check_fault_name (NotNext i)) (check_fault_number (NotNext i))
fault_data (NotACollision i) =
    fault_of_entry i (check_fault_name (NotACollision i)) (check_fault_number (NotACollision i))
fault_data TooFew = named_fault (check_fault_name TooFew) (check_fault_number TooFew)

unfoldable pub accepted_data : Data
accepted_data = object (member (codes "ok") (boolean true) no_members)

unfoldable pub refused_data : Data → Data
refused_data fault =
    object (member (codes "fault") fault (member (codes "ok") (boolean false) no_members))

-- the verdict of the check
abbrev pub verdict_data : Result (Unit {0}) CheckFault → Data
verdict_data (Ok x) = accepted_data
verdict_data (Err fault) = refused_data (fault_data fault)

-- a certificate that could not be read
abbrev pub unread_data : CertFault → Data
unread_data fault = refused_data (named_fault (cert_fault_name fault) (cert_fault_number fault))
