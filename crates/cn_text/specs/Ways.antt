-- The ways that do not work: the choice of each, and two runs.
use Rattle.std.specs.Prelude.{ℕ, ◌+◌, List, [], ◌∷◌, ◌++◌, codes, Bool, true, false, flat_map}
use Rattle.std.specs.Prelude.{if◌then◌else◌}
use Rattle.std.specs.Fmt.{decimal}
use Rattle.cn_table.specs.Names.{name_at}
use Rattle.cn_table.specs.TypeTable.{TypeTable, operation_names}
use Rattle.cn_table.specs.declared.elements.State.{State}
use Rattle.cn_choice.specs.declared.team.Team.{Team}
use Rattle.cn_choice.specs.declared.team.Team.TheVariants.{A, B}
use Rattle.cn_reasons.specs.declared.group.ChoiceGroups.{ChoiceGroups}
use Rattle.cn_reasons.specs.declared.reasons.RecoverableWay.{RecoverableWay}
use Rattle.cn_reasons.specs.declared.runs.Step.{Step}
use Rattle.cn_reasons.specs.declared.way.Way.{Way}
use Rattle.cn_sentences.specs.Groups.{members, process_name}

-- ---- choices

unfoldable pub choice_text : TypeTable → ChoiceGroups → List ℕ
choice_text t c =
    codes "start " ++ (name_at t.states c.start.0 ++ (codes "; A: " ++ (members t [] c.a.items
    ++ (codes "; B: " ++ (members t [] c.b.items ++ [])))))

-- the choice behind the number of its way
unfoldable pub way_start : TypeTable → ℕ → ChoiceGroups → List ℕ
way_start t number c = codes "  " ++ (decimal number ++ (codes ". " ++ (choice_text t c ++ [])))

-- ---- runs

-- the step of a process: its operation, the response if that is told, and the next state
unfoldable pub step_text : TypeTable → Bool → Step → List ℕ
step_text t answered s =
    codes " --" ++ (process_name s.process ++ (codes " " ++ (name_at (operation_names t) s.operation.0
    ++ ((if answered then codes "/" ++ (name_at t.responses s.response.0 ++ []) else [])
    ++ (codes "--> " ++ (name_at t.states s.state.0 ++ []))))))

-- the team that is first
abbrev pub run_name : Team → List Step → List ℕ
run_name team [] = codes "no step"
run_name A (s ∷ ss) = codes "A first"
run_name B (s ∷ ss) = codes "B first"

-- a run from the start state
unfoldable pub run_text : TypeTable → Bool → State → Team → List Step → List ℕ
run_text t answered start team steps =
    codes "       " ++ (run_name team steps ++ (codes ":  " ++ (name_at t.states start.0
    ++ (flat_map (step_text t answered) steps ++ []))))

-- both runs of a choice, the one that team A begins first
unfoldable pub both_runs : TypeTable → Bool → State → List Step → List Step → List ℕ
both_runs t answered start a_first b_first =
    run_text t answered start A a_first ++ (codes "\n"
    ++ (run_text t answered start B b_first ++ (codes "\n" ++ [])))

-- ---- ways

-- a run of a way, and what its process sees of it
unfoldable pub seen_run : TypeTable → Way → Team → List Step → List ℕ
seen_run t w team steps =
    run_text t true w.choice.start team steps ++ (codes "     " ++ (process_name w.process
    ++ (codes " got " ++ (name_at t.responses w.sight.response.0
    ++ (codes ", reads " ++ (name_at t.states w.sight.state.0 ++ (codes "\n" ++ [])))))))

unfoldable pub cannot_tell : ℕ → List ℕ
cannot_tell p = codes "        " ++ (process_name p ++ (codes " cannot tell:\n" ++ []))

-- a numbered choice, and two runs by which a process cannot tell
unfoldable pub way_text : TypeTable → ℕ → Way → List ℕ
way_text t number w =
    way_start t number w.choice ++ (cannot_tell w.process ++ (seen_run t w A w.runs.a_first.items
    ++ (seen_run t w B w.runs.b_first.items ++ [])))

-- a numbered choice, and two runs that leave one state
unfoldable pub recoverable_way_text : TypeTable → ℕ → RecoverableWay → List ℕ
recoverable_way_text t number w =
    way_start t number w.choice ++ (codes "        both leave " ++ (name_at t.states w.state.0
    ++ (codes ":\n"
    ++ (both_runs t false w.choice.start w.runs.a_first.items w.runs.b_first.items ++ []))))

-- texts of the items of a list, numbered behind this number
abbrev pub numbered : {X : Type 0} → (ℕ → X → List ℕ) → ℕ → List X → List ℕ
numbered text before [] = []
numbered text before (x ∷ xs) = text (before + 1) x ++ numbered text (before + 1) xs
