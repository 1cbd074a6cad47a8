-- Certificates of plan trees that are right.
use Rattle.std.specs.Prelude.{◌≡◌, ◌≤◌, ℕ, List, length, map}
use Rattle.cn_table.specs.TypeTable.{TypeTable}
use Rattle.cn_choice.specs.declared.limits.TheConstants.{MOST_PROCESSES}
use Rattle.cn_trees.specs.Tree.{AreWitnesses, Teams, members, nodes_of, processes_of}
use Rattle.cn_tree_cert.specs.Certificate.{TreeCertificate, TreeNode}
use Rattle.cn_tree_check.specs.Sizes.{all_sizes, teams_at}
use Rattle.cn_tree_costs.specs.Cost.{cost}
use Rattle.cn_tree_plans.specs.Plan.{AreMeetings, NodeMeeting, TreePlan, tree_of, tree_with}
use Rattle.cn_tree_plans.specs.Teams.{AreProper}

-- the meeting of a node, and those of all nodes
abbrev pub meeting_of : TreeNode → NodeMeeting
meeting_of n = record {
  start = n.start;
  sight = n.sight;
  operations = map (λ o. o.0) n.operations;
}

abbrev pub meetings_of : TreeCertificate → List NodeMeeting
meetings_of c = map meeting_of c.nodes

abbrev pub teams_in : TreeCertificate → List (List ℕ)
teams_in c = teams_at c.nodes

-- the nodes are those of the tree with these teams at the root, which a plan tree may have, for as
-- many processes as the certificate tells
pub record IsTreeOf (c : TreeCertificate) (s : Teams) : Type 0 where
  pub proper : AreProper s
  pub few : members s ≤ MOST_PROCESSES
  pub teams : all_sizes s ≡ teams_in c
  pub processes : members s ≡ c.processes

-- they have meetings of the type
pub record HasMeetings (t : TypeTable) (c : TreeCertificate) (s : Teams) : Type 0 where
  pub tree : IsTreeOf c s
  pub meetings : AreMeetings t s (meetings_of c)

-- and each of them is a witness
pub record HasWitnesses (t : TypeTable) (c : TreeCertificate) (s : Teams) : Type 0 where
  pub fits : HasMeetings t c s
  pub witnesses : AreWitnesses (tree_with t s (meetings_of c))

-- the certificate is right: its nodes are a tree of witnesses of the type of this name, for as many
-- processes and with as many steps as it tells
pub record IsRightBy (t : TypeTable) (c : TreeCertificate) (s : Teams) : Type 0 where
  pub type_name : c.type_name ≡ t.name
  pub tree : HasWitnesses t c s
  pub steps : (cost (tree_with t s (meetings_of c))).steps ≡ c.steps

abbrev pub IsRight : TypeTable → TreeCertificate → Type 0
IsRight t c = (s : Teams) × IsRightBy t c s

-- the plan of a certificate that is right
pub record IsPlanOf (t : TypeTable) (c : TreeCertificate) (plan : TreePlan) : Type 0 where
  pub table : plan.table ≡ t
  pub meetings : plan.meetings ≡ meetings_of c
  pub right : IsRightBy t c plan.teams

-- the certificate says what the plan is, with a node for each of its objects
pub record IsCertificateOf (plan : TreePlan) (c : TreeCertificate) : Type 0 where
  pub type_name : c.type_name ≡ plan.table.name
  pub teams : teams_in c ≡ all_sizes plan.teams
  pub meetings : meetings_of c ≡ plan.meetings
  pub processes : c.processes ≡ processes_of (tree_of plan)
  pub objects : length c.nodes ≡ nodes_of (tree_of plan)
  pub steps : c.steps ≡ (cost (tree_of plan)).steps
