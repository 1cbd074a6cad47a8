-- What making a plan tree answers.
use Rattle.std.specs.Prelude.{◌≡◌, ◌≢◌, ◌+◌, ◌<◌, ◌^◌, ℕ, List, [], length, slice_index_or, Result, Ok, Err}
use Rattle.std.specs.declared.vec.Vec.{Vec}
use Rattle.cn_table.specs.TypeTable.{TypeTable}
use Rattle.cn_meetings.specs.Witness.{Has, IsTeamWitness}
use Rattle.cn_trees.specs.Tree.{AreWitnesses, PlanTree, Teams, comes_to, nodes_of, team_in}
use Rattle.cn_tree_costs.specs.Nodes.{node_at}
use Rattle.cn_tree_costs.specs.Sizes.{sizes_of}
use Rattle.cn_tree_plans.specs.Listing.{AreEntries, SomeShowSame}
use Rattle.cn_tree_plans.specs.Plan.{IsShownBy, IsTreePlan, NodeMeeting, TreePlan, no_meeting, tree_of, tree_with}
use Rattle.cn_tree_plans.specs.declared.fault.TreePlanFault.{TreePlanFault}
use Rattle.cn_tree_plans.specs.declared.fault.TreePlanFault.TheVariants.{Meets, OutOfMemory}
use Rattle.cn_tree_plans.specs.declared.judged.Judged.{Judged}
use Rattle.cn_tree_plans.specs.declared.making.NodeFault.{NodeFault}
use Rattle.cn_tree_plans.specs.declared.making.NodeFault.TheVariants.{Meets as MeetsAt, OutOfMemory as NoMemory}

-- two teams of node v show process p the same
pub record IsShownTwice (T : PlanTree) (v p : ℕ) : Type 0 where
  pub team : ℕ
  pub other : ℕ
  pub response : ℕ
  pub saw : ℕ
  pub apart : team ≢ other
  pub shown : IsShownBy T v p team response saw
  pub shown_again : IsShownBy T v p other response saw

-- node v is the first one that is no witness, and process p of it the first one to which two teams
-- show the same
pub record IsFirstMeeting (T : PlanTree) (v p : ℕ) : Type 0 where
  pub node : v < nodes_of T
  pub comes : Has (comes_to T.teams v) p
  pub meets : IsShownTwice T v p
  pub least_node : (w : ℕ) → w < v
      → IsTeamWitness T.table (T.meeting w) (comes_to T.teams w) (team_in T.teams w)
  pub least_process : (q : ℕ) → q < p → ¬ IsShownTwice T v q

-- two teams show a process the same; or memory ran out
abbrev pub IsRefused : TypeTable → Teams → List NodeMeeting → TreePlanFault → Type 0
IsRefused t s meetings (Meets v p) = IsFirstMeeting (tree_with t s meetings) v p
IsRefused t s meetings OutOfMemory = Unit {0}

-- a plan exactly for witnesses, else where two teams show the same; or memory ran out
abbrev pub IsMade : TypeTable → Teams → List NodeMeeting → Result TreePlan TreePlanFault → Type 0
IsMade t s meetings (Ok plan) = (plan.table ≡ t) × (plan.teams ≡ s) × (plan.meetings ≡ meetings)
    × AreWitnesses (tree_of plan)
IsMade t s meetings (Err fault) = IsRefused t s meetings fault

-- the lists of the first n processes of a node, whose teams have these sizes
pub record AreLists (t : TypeTable) (m : NodeMeeting) (sizes : List ℕ) (n : ℕ)
    (lists : List (List Judged)) : Type 0 where
  pub count : length lists ≡ n
  pub each : (k : ℕ) → k < n → AreEntries t m sizes k (slice_index_or lists k [])

-- the lists of all its processes, or the least one to which two teams show the same
abbrev pub IsNodeJudged : TypeTable → NodeMeeting → List ℕ → Result (List (List Judged)) NodeFault
    → Type 0
IsNodeJudged t m sizes (Ok lists) = AreLists t m sizes (length m.operations) lists
IsNodeJudged t m sizes (Err (MeetsAt k)) = (k < length m.operations)
    × SomeShowSame t m sizes k × ((j : ℕ) → j < k → ¬ SomeShowSame t m sizes j)
IsNodeJudged t m sizes (Err NoMemory) = Unit {0}

-- the lists of the first n nodes
pub record AreNodeLists (t : TypeTable) (s : Teams) (meetings : List NodeMeeting) (n : ℕ)
    (judged : List (List (List Judged))) : Type 0 where
  pub count : length judged ≡ n
  pub each : (v : ℕ) → v < n → AreLists t (slice_index_or meetings v no_meeting)
      (sizes_of (node_at s v).teams) (length (slice_index_or meetings v no_meeting).operations)
      (slice_index_or judged v [])

-- the fault of a node of the tree, whose first process is this one
abbrev pub fault_at : ℕ → ℕ → NodeFault → TreePlanFault
fault_at v first (MeetsAt k) = Meets v (first + k)
fault_at v first NoMemory = OutOfMemory

abbrev pub FaultFits : ℕ → NodeFault → Type 0
FaultFits first (MeetsAt k) = first + k < 2 ^ 8
FaultFits first NoMemory = Unit {0}

-- judgements that make a plan tree
abbrev pub AreAllJudged : {M : Type 0} → TypeTable → Teams → List NodeMeeting
    → Result (Vec (List (List Judged)) M) TreePlanFault → Type 0
AreAllJudged t s meetings (Ok judged) = AreWitnesses (tree_with t s meetings)
    × IsTreePlan (record { table = t; teams = s; meetings = meetings; judged = judged.items })
AreAllJudged t s meetings (Err fault) = IsRefused t s meetings fault
