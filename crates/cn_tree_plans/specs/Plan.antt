-- A plan tree as data: its teams, and for each node its meeting and its judgements.
use Rattle.std.specs.Prelude.{◌≡◌, ◌+◌, ◌-◌, ◌<◌, ◌≤◌, ◌↔◌, ◌⊎◌, ◌==◌, ◌&&◌, ℕ, List, [], length}
use Rattle.std.specs.Prelude.{AllPairs, Contains, slice_index, slice_index_or, find, refl}
use Rattle.std.specs.Option.{option_map_or}
use Rattle.std.specs.Coded.{Coded, code_by, coded×, coded_ℕ, coded_list}
use Rattle.cn_table.specs.TypeTable.{TypeTable, IsTypeTable, table_code}
use Rattle.cn_choice.specs.declared.limits.TheConstants.{MOST_PROCESSES}
use Rattle.cn_meetings.specs.Meeting.{IsSightOf, Meeting}
use Rattle.cn_meetings.specs.Sights.{sight_of}
use Rattle.cn_meetings.specs.Witness.{BeginsIn, Has, IsShown}
use Rattle.cn_meetings.specs.declared.sight.Sight.{Sight}
use Rattle.cn_meetings.specs.declared.sight.Sight.TheVariants.{Nothing}
use Rattle.cn_trees.specs.Tree.{PlanTree, Teams, comes_to, members, nodes_in, team_in}
use Rattle.cn_tree_costs.specs.Nodes.{node_at}
use Rattle.cn_tree_plans.specs.SightsCode.{sight_code}
use Rattle.cn_tree_plans.specs.Teams.{AreProper}
use Rattle.cn_tree_plans.specs.TeamsCode.{teams_code}
use Rattle.cn_tree_plans.specs.declared.judged.Judged.{Judged}

-- the state in which the object of a node starts, how its processes look at it behind their
-- operations, and the operation of each of them, from the first one on
pub record NodeMeeting : Type 0 where
  pub start : ℕ
  pub sight : Sight
  pub operations : List ℕ

-- a type, the teams of the root, and for each node its meeting and, for each of its processes from
-- the first one on, what this judges
pub record TreePlan : Type 0 where
  pub table : TypeTable
  pub teams : Teams
  pub meetings : List NodeMeeting
  pub judged : List (List (List Judged))

abbrev pub no_meeting : NodeMeeting
no_meeting = record { start = 0; sight = Nothing; operations = [] }

-- the meeting of processes with numbers from the first one on
abbrev pub meeting_from : ℕ → NodeMeeting → Meeting
meeting_from first m = record {
  start = m.start;
  operation = λ p. slice_index m.operations (p - first);
  sight = λ p. sight_of m.sight;
}

-- the meeting of node v of the tree with these teams at the root
abbrev pub meeting_in : Teams → List NodeMeeting → ℕ → Meeting
meeting_in s meetings v = meeting_from (node_at s v).first (slice_index_or meetings v no_meeting)

-- the tree of these meetings, with no judgements
abbrev pub tree_with : TypeTable → Teams → List NodeMeeting → PlanTree
tree_with t s meetings = record {
  table = t;
  teams = s;
  meeting = meeting_in s meetings;
  judge = λ v p response saw. 0;
}

-- what process p of node v judges
abbrev pub judged_at : TreePlan → ℕ → ℕ → List Judged
judged_at plan v p =
    slice_index_or (slice_index_or plan.judged v []) (p - (node_at plan.teams v).first) []

-- the team of the first entry with this response and what was seen, or team 0
abbrev pub judged_team : List Judged → ℕ → ℕ → ℕ
judged_team judged response saw = option_map_or (λ x. x.team)
    (find (λ x. (x.response.0 == response) && (x.saw == saw)) judged) 0

-- the plan tree of this plan
abbrev pub tree_of : TreePlan → PlanTree
tree_of plan = record (tree_with plan.table plan.teams plan.meetings) {
  judge = λ v p response saw. judged_team (judged_at plan v p) response saw;
}

-- each node has a meeting of its processes, with a state, a sight and operations of the type
pub record AreMeetings (t : TypeTable) (s : Teams) (meetings : List NodeMeeting) : Type 0 where
  pub count : length meetings ≡ 1 + nodes_in s
  pub starts : (v : ℕ) → v < 1 + nodes_in s
      → (slice_index_or meetings v no_meeting).start < length t.states
  pub sights : (v : ℕ) → v < 1 + nodes_in s
      → IsSightOf t (sight_of (slice_index_or meetings v no_meeting).sight)
  pub sizes : (v : ℕ) → v < 1 + nodes_in s
      → length (slice_index_or meetings v no_meeting).operations ≡ members (node_at s v).teams
  pub operations : (v k : ℕ) → v < 1 + nodes_in s → k < members (node_at s v).teams
      → slice_index (slice_index_or meetings v no_meeting).operations k < length t.operations

-- at node v process p is shown this response and sees this of the last state, where team g comes
-- first
abbrev pub IsShownBy : PlanTree → ℕ → ℕ → ℕ → ℕ → ℕ → Type 0
IsShownBy T v p g response saw = (order : List ℕ)
    × IsShown T.table (T.meeting v) (comes_to T.teams v) order p response saw
    × BeginsIn (team_in T.teams v) g order

-- the order of judgements: by response, then by what was seen
abbrev pub JudgedBefore : Judged → Judged → Type 0
JudgedBefore x y = (x.response.0 < y.response.0)
    ⊎ ((x.response.0 ≡ y.response.0) × (x.saw < y.saw))

-- each process of each node judges exactly what it is shown: each pair of a response and what was
-- seen once, in order, with the team that came first
pub record AreJudgements (plan : TreePlan) : Type 0 where
  pub count : length plan.judged ≡ 1 + nodes_in plan.teams
  pub sizes : (v : ℕ) → v < 1 + nodes_in plan.teams
      → length (slice_index_or plan.judged v []) ≡ members (node_at plan.teams v).teams
  pub exact : (v p : ℕ) (x : Judged) → Has (comes_to plan.teams v) p
      → Contains (judged_at plan v p) x
      ↔ IsShownBy (tree_of plan) v p x.team x.response.0 x.saw
  pub in_order : (v p : ℕ) → Has (comes_to plan.teams v) p
      → AllPairs JudgedBefore (judged_at plan v p)

-- the properties of every plan tree in memory
pub record IsTreePlan (plan : TreePlan) : Type 0 where
  pub known : IsTypeTable plan.table
  pub proper : AreProper plan.teams
  pub few : members plan.teams ≤ MOST_PROCESSES
  pub fits : AreMeetings plan.table plan.teams plan.meetings
  pub judged : AreJudgements plan

-- a plan as plain lists: equality uses these
abbrev pub node_meeting_code : Coded NodeMeeting
node_meeting_code =
    code_by (ℕ × (Sight × List ℕ)) (coded× coded_ℕ (coded× sight_code (coded_list coded_ℕ)))
    (λ m. (m.start, (m.sight, m.operations)))
    (λ x. record { start = x.0; sight = x.1.0; operations = x.1.1 }) (λ _. refl)

abbrev pub judged_code : Coded Judged
judged_code =
    code_by (ℕ × (ℕ × ℕ)) (coded× coded_ℕ (coded× coded_ℕ coded_ℕ))
    (λ j. (j.response.0, (j.saw, j.team)))
    (λ x. record {
      response = record { 0 = x.0 };
      saw = x.1.0;
      team = x.1.1;
    }) (λ _. refl)

abbrev pub plan_code : Coded TreePlan
plan_code =
    code_by (TypeTable × (Teams × (List NodeMeeting × List (List (List Judged)))))
    (coded× table_code (coded× teams_code (coded× (coded_list node_meeting_code)
    (coded_list (coded_list (coded_list judged_code))))))
    (λ plan. (plan.table, (plan.teams, (plan.meetings, plan.judged))))
    (λ x. record { table = x.0; teams = x.1.0; meetings = x.1.1.0; judged = x.1.1.1 }) (λ _. refl)
