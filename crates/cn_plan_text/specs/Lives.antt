-- The lines of the events of a schedule of steps and crashes.
use Rattle.std.specs.Prelude.{ℕ, List, [], ◌∷◌, ◌++◌, codes, decimal, Some, None}
use Rattle.std.specs.List.{concat}
use Rattle.cn_table.specs.TypeTable.{TypeTable}
use Rattle.cn_table.specs.Names.{name_at}
use Rattle.cn_choice.specs.TeamNames.{team_name}
use Rattle.cn_lives.specs.declared.life_action.LifeAction.{LifeAction}
use Rattle.cn_lives.specs.declared.life_action.LifeAction.TheVariants.{Common, ReadStart, ReadEmpty}
use Rattle.cn_lives.specs.declared.life_action.LifeAction.TheVariants.{HasDecided, Crash}
use Rattle.cn_lives.specs.declared.life_action.LifeRecord.{LifeRecord}
use Rattle.cn_plan_text.specs.Steps.{step_text}

-- what a process does, in words
abbrev pub life_action_text : TypeTable → LifeAction → List ℕ
life_action_text t (Common action) = step_text t (Some action)
life_action_text t (ReadStart node state) =
    concat (codes "reads " ∷ name_at t.states state.0 ∷ codes " at node " ∷ decimal node
    ∷ codes ": start state" ∷ [])
life_action_text t (ReadEmpty node team) =
    concat (codes "finds nothing in " ∷ team_name team ∷ codes " of node " ∷ decimal node ∷ [])
life_action_text t HasDecided = step_text t None
life_action_text t (Crash forgets) = codes "crashes"

abbrev pub life_step_line : TypeTable → LifeRecord → List ℕ
life_step_line t r =
    concat (decimal r.process ∷ codes ": " ∷ life_action_text t r.action ∷ codes "\n" ∷ [])

-- the lines of events, in their order
abbrev pub life_step_lines : TypeTable → List LifeRecord → List ℕ
life_step_lines t [] = []
life_step_lines t (r ∷ rs) = life_step_line t r ++ life_step_lines t rs
