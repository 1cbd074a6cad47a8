-- Why certificates of plan trees are refused.
use Rattle.std.specs.Prelude.{◌≡◌, ◌≢◌}
use Rattle.cn_table.specs.TypeTable.{TypeTable}
use Rattle.cn_trees.specs.Tree.{Teams}
use Rattle.cn_tree_cert.specs.Certificate.{TreeCertificate}
use Rattle.cn_tree_check.specs.Right.{HasMeetings, HasWitnesses, IsTreeOf, meetings_of}
use Rattle.cn_tree_check.specs.declared.fault.TreeCheckFault.{TreeCheckFault}
use Rattle.cn_tree_check.specs.declared.fault.TreeCheckFault.TheVariants.{BadMeeting, BadSteps, Meets}
use Rattle.cn_tree_check.specs.declared.fault.TreeCheckFault.TheVariants.{NotATree, OtherType}
use Rattle.cn_tree_check.specs.declared.fault.TreeCheckFault.TheVariants.{OutOfMemory}
use Rattle.cn_tree_costs.specs.Cost.{cost}
use Rattle.cn_tree_plans.specs.Made.{IsFirstMeeting}
use Rattle.cn_tree_plans.specs.Plan.{AreMeetings, tree_with}
use Rattle.cn_tree_plans.specs.declared.fault.TreePlanFault.{TreePlanFault}
use Rattle.cn_tree_plans.specs.declared.fault.TreePlanFault.TheVariants as making

-- the certificate has the fault, and none with a lesser number
abbrev pub IsFirstFault : TypeTable → TreeCertificate → TreeCheckFault → Type 0
IsFirstFault t c OtherType = c.type_name ≢ t.name
IsFirstFault t c NotATree = (c.type_name ≡ t.name) × ((s : Teams) → ¬ IsTreeOf c s)
IsFirstFault t c BadMeeting = (c.type_name ≡ t.name)
    × ((s : Teams) × IsTreeOf c s × ¬ AreMeetings t s (meetings_of c))
IsFirstFault t c (Meets v p) = (c.type_name ≡ t.name)
    × ((s : Teams) × HasMeetings t c s × IsFirstMeeting (tree_with t s (meetings_of c)) v p)
IsFirstFault t c BadSteps = (c.type_name ≡ t.name)
    × ((s : Teams) × HasWitnesses t c s × ((cost (tree_with t s (meetings_of c))).steps ≢ c.steps))
IsFirstFault t c OutOfMemory = ⊥

-- a fault of making the plan, as one of the check
abbrev pub as_check_fault : TreePlanFault → TreeCheckFault
as_check_fault (making.Meets v p) = Meets v p
as_check_fault making.OutOfMemory = OutOfMemory
