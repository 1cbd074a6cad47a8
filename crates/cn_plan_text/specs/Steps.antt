-- The lines of the steps of a schedule.
use Rattle.std.specs.Prelude.{ℕ, List, [], ◌∷◌, ◌++◌, codes, decimal, Option, Some, None}
use Rattle.std.specs.List.{concat}
use Rattle.cn_table.specs.TypeTable.{TypeTable, operation_names}
use Rattle.cn_table.specs.Names.{name_at}
use Rattle.cn_choice.specs.TeamNames.{team_name}
use Rattle.cn_agree.specs.declared.next_action.Action.{Action}
use Rattle.cn_agree.specs.declared.next_action.Action.TheVariants.{Write, Apply, Read, Take, Decide}
use Rattle.cn_agree.specs.declared.next_action.StepRecord.{StepRecord}

-- an action in words
abbrev pub action_text : TypeTable → Action ℕ → List ℕ
action_text t (Write node team value) =
    concat (codes "writes " ∷ decimal value ∷ codes " to " ∷ team_name team ∷ codes " of node "
    ∷ decimal node ∷ [])
action_text t (Apply node operation response before after) =
    concat (codes "applies " ∷ name_at (operation_names t) operation.0 ∷ codes " at node "
    ∷ decimal node ∷ codes ": " ∷ name_at t.responses response.0 ∷ [])
action_text t (Read node state team) =
    concat (codes "reads " ∷ name_at t.states state.0 ∷ codes " at node " ∷ decimal node
    ∷ codes ": team " ∷ team_name team ∷ [])
action_text t (Take node team value) =
    concat (codes "takes " ∷ decimal value ∷ codes " from " ∷ team_name team ∷ codes " of node "
    ∷ decimal node ∷ [])
action_text t (Decide value) = concat (codes "decides " ∷ decimal value ∷ [])

-- a step in words; a process that has decided takes no action
abbrev pub step_text : TypeTable → Option (Action ℕ) → List ℕ
step_text t None = codes "has decided"
step_text t (Some action) = action_text t action

abbrev pub step_line : TypeTable → StepRecord ℕ → List ℕ
step_line t r = concat (decimal r.process ∷ codes ": " ∷ step_text t r.action ∷ codes "\n" ∷ [])

-- the lines of steps, in their order
abbrev pub step_lines : TypeTable → List (StepRecord ℕ) → List ℕ
step_lines t [] = []
step_lines t (r ∷ rs) = step_line t r ++ step_lines t rs
