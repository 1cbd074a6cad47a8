-- The processes of a choice as JSON values.
use Rattle.std.specs.Prelude.{ℕ, List, ◌++◌, codes, replicate}
use Rattle.std.specs.List.{flat_map}
use Rattle.serde_json.specs.Data.{Data, array, object, member, no_members}
use Rattle.serde_json.specs.View.{items_of}
use Rattle.cn_table.specs.TypeTable.{TypeTable}
use Rattle.cn_choice.specs.TeamNames.{team_name}
use Rattle.cn_reasons.specs.declared.group.ChoiceGroups.{ChoiceGroups}
use Rattle.cn_reasons.specs.declared.group.Group.{Group}
use Rattle.cn_json.specs.Names.{operation_data}
use Rattle.cn_json.specs.Values.{text_data}

-- a value for each process: a thing is of so many processes, which have the same value
abbrev pub of_processes : {X : Type 0} → (X → ℕ) → (X → Data) → List X → List Data
of_processes count value xs = flat_map (λ x. replicate (count x) (value x)) xs

-- a process of a group: its operation and its team
abbrev pub process_data : TypeTable → Group → Data
process_data t g =
    object (member (codes "operation") (operation_data t g.operation)
    (member (codes "team") (text_data (team_name g.team)) no_members))

abbrev pub group_processes : TypeTable → List Group → List Data
group_processes t groups = of_processes (λ g. g.count) (process_data t) groups

-- the processes of team A come first
abbrev pub processes_data : TypeTable → ChoiceGroups → Data
processes_data t c =
    array (items_of (group_processes t c.a.items ++ group_processes t c.b.items))
