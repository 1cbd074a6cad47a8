-- The shortest plan of a table: for how many processes it is, and when there is none.
use Rattle.std.specs.Prelude.{◌≡◌, ◌<◌, ◌≤◌, ◌⊎◌, ℕ, Bool, false, true, None, Option, Some}
use Rattle.std.specs.Prelude.{Result, Ok, Err}
use Rattle.cn_table.specs.TypeTable.{TypeTable}
use Rattle.cn_choice.specs.declared.limits.TheConstants.{MOST_PROCESSES}
use Rattle.cn_tree_costs.specs.Cost.{IsLeastPlan}
use Rattle.cn_tree_plans.specs.Plan.{TreePlan, tree_of}
use Rattle.cn_shortest.specs.Greatest.{HasTree}
use Rattle.cn_shortest.specs.Looks.{allowed}
use Rattle.cn_shortest.specs.declared.looks.Looks.{Looks}
use Rattle.cn_shortest.specs.declared.looks.Looks.TheVariants.{AtResponses, AtStates}
use Rattle.cn_io.specs.Arguments.Lives.{CanBe, GivesProcesses}
use Rattle.cn_io.specs.Steps.{Then}
use Rattle.cn_io.specs.declared.fault.AppFault.{AppFault}
use Rattle.cn_io.specs.declared.fault.AppFault.TheVariants.{NoPlanTree, OutOfMemory}
use Rattle.cn_app.specs.declared.reports.shortest.AskedPlan.{AskedPlan}

-- at each node the processes of a plan read the state, or judge by the response of their operation
-- alone; where none is to read, they may see the response of a silent operation in its place
abbrev pub looks_of : Bool → Looks
looks_of false = AtStates
looks_of true = AtResponses

-- the type has a plan tree for n processes
abbrev pub HasPlanTree : TypeTable → Looks → ℕ → Type 0
HasPlanTree t looks n = HasTree t (allowed looks) n

-- the plan is for as many processes as given, or else for the most for which there is a plan tree
abbrev pub IsCount : TypeTable → Looks → Option ℕ → ℕ → Type 0
IsCount t looks (Some given) n = n ≡ given
IsCount t looks None n =
    (m : ℕ) → n < m → m ≤ MOST_PROCESSES → ¬ HasPlanTree t looks m

-- there is no plan tree for as many processes as given, or else for no number of processes
abbrev pub HasNoPlan : TypeTable → Looks → Option ℕ → Type 0
HasNoPlan t looks (Some given) = ¬ HasPlanTree t looks given
HasNoPlan t looks None = (n : ℕ) → CanBe n → ¬ HasPlanTree t looks n

-- no plan tree for so many processes costs less than this one
pub record IsShortestPlan (t : TypeTable) (looks : Looks) (given : Option ℕ)
    (plan : TreePlan) : Type 0 where
  pub processes : ℕ
  pub possible : CanBe processes
  pub count : IsCount t looks given processes
  pub least : IsLeastPlan t (allowed looks) processes (tree_of plan)

-- the result of looking for the shortest plan for a number that is possible, or else for the most
abbrev pub FindsShortestPlan : TypeTable → Looks → Option ℕ → Result TreePlan AppFault → Type 0
FindsShortestPlan t looks given (Ok plan) = IsShortestPlan t looks given plan
FindsShortestPlan t looks given (Err e) =
    (e ≡ OutOfMemory) ⊎ ((e ≡ NoPlanTree) × HasNoPlan t looks given)

-- the same for any number, which is looked at first
abbrev pub GivesShortestPlan : TypeTable → AskedPlan → Result TreePlan AppFault → Type 0
GivesShortestPlan t asked r = Then (GivesProcesses asked.processes)
    (λ possible. FindsShortestPlan t (looks_of asked.without_read) asked.processes) r
