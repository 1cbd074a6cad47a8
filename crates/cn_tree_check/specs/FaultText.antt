-- The text of a fault: its number and its name; of a node that is no witness also the numbers of the
-- node and of the process.
use Rattle.std.specs.Prelude.{ℕ, List, ◌++◌, None, codes}
use Rattle.std.specs.Fmt.{decimal}
use Rattle.cn_table.specs.FaultText.{numbered_text}
use Rattle.cn_tree_check.specs.declared.fault.TreeCheckFault.{TreeCheckFault}
use Rattle.cn_tree_check.specs.declared.fault.TreeCheckFault.TheVariants.{BadMeeting, BadSteps, Meets}
use Rattle.cn_tree_check.specs.declared.fault.TreeCheckFault.TheVariants.{NotATree, OtherType}
use Rattle.cn_tree_check.specs.declared.fault.TreeCheckFault.TheVariants.{OutOfMemory}

abbrev pub tree_fault_number : TreeCheckFault → ℕ
tree_fault_number OtherType = 1
tree_fault_number NotATree = 2
tree_fault_number BadMeeting = 3
tree_fault_number (Meets node process) = 4
tree_fault_number BadSteps = 5
tree_fault_number OutOfMemory = 6

abbrev pub tree_fault_name : TreeCheckFault → List ℕ
tree_fault_name OtherType = codes "OtherType"
tree_fault_name NotATree = codes "NotATree"
tree_fault_name BadMeeting = codes "BadMeeting"
tree_fault_name (Meets node process) = codes "Meets"
tree_fault_name BadSteps = codes "BadSteps"
tree_fault_name OutOfMemory = codes "OutOfMemory"

abbrev pub tree_fault_text : TreeCheckFault → List ℕ
tree_fault_text (Meets node process) =
    codes "4 Meets " ++ decimal node ++ codes " " ++ decimal process
tree_fault_text fault = numbered_text (tree_fault_number fault) (tree_fault_name fault) None
