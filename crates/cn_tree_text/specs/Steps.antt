-- The lines of the steps of a schedule along a plan tree.
use Rattle.std.specs.Prelude.{ℕ, List, [], ◌∷◌, ◌++◌, codes, decimal, Option, Some, None}
use Rattle.std.specs.List.{concat}
use Rattle.cn_table.specs.Names.{name_at}
use Rattle.cn_table.specs.TypeTable.{TypeTable, operation_names}
use Rattle.cn_tree_rounds.specs.declared.action.Action.{Action}
use Rattle.cn_tree_rounds.specs.declared.action.Action.TheVariants.{Write, Apply, Read, Look, Take, Decide}
use Rattle.cn_tree_rounds.specs.declared.action.StepRecord.{StepRecord}

-- the team that is judged by the response alone
abbrev pub told_text : Option ℕ → List ℕ
told_text None = []
told_text (Some team) = codes ", team " ++ decimal team

-- an operation and its response, and the team that this shows to a process that does not look
abbrev pub apply_text : List ℕ → ℕ → List ℕ → Option ℕ → List ℕ
apply_text operation node response team =
    codes "applies " ++ operation ++ codes " at node " ++ decimal node ++ codes ": " ++ response
    ++ told_text team

-- a look by an operation, the response, and the team that is judged
abbrev pub look_text : List ℕ → ℕ → List ℕ → ℕ → List ℕ
look_text operation node response team =
    codes "looks by " ++ operation ++ codes " at node " ++ decimal node ++ codes ": " ++ response
    ++ codes ", team " ++ decimal team

-- an action in words
abbrev pub action_text : TypeTable → Action → List ℕ
action_text t (Write node team value) =
    concat (codes "writes " ∷ decimal value ∷ codes " to team " ∷ decimal team ∷ codes " of node "
    ∷ decimal node ∷ [])
action_text t (Apply node operation response before after team) =
    apply_text (name_at (operation_names t) operation.0) node (name_at t.responses response.0) team
action_text t (Read node state team) =
    concat (codes "reads " ∷ name_at t.states state.0 ∷ codes " at node " ∷ decimal node
    ∷ codes ": team " ∷ decimal team ∷ [])
action_text t (Look node operation response team) =
    look_text (name_at (operation_names t) operation.0) node (name_at t.responses response.0) team
action_text t (Take node team value) =
    concat (codes "takes " ∷ decimal value ∷ codes " from team " ∷ decimal team ∷ codes " of node "
    ∷ decimal node ∷ [])
action_text t (Decide value) = concat (codes "decides " ∷ decimal value ∷ [])

-- a step in words; a process that has decided takes no action
abbrev pub step_text : TypeTable → Option Action → List ℕ
step_text t None = codes "has decided"
step_text t (Some action) = action_text t action

abbrev pub step_line : TypeTable → StepRecord → List ℕ
step_line t r = concat (decimal r.process ∷ codes ": " ∷ step_text t r.action ∷ codes "\n" ∷ [])

-- the lines of steps, in their order
abbrev pub step_lines : TypeTable → List StepRecord → List ℕ
step_lines t [] = []
step_lines t (r ∷ rs) = step_line t r ++ step_lines t rs
