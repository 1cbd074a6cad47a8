-- The witness of a number in Markdown: a row for each group of processes.
use Rattle.std.specs.Prelude.{codes, ℕ, List, [], ◌++◌, flat_map, Option, Some, None}
use Rattle.std.specs.Fmt.{decimal}
use Rattle.cn_table.specs.Names.{name_at}
use Rattle.cn_table.specs.TypeTable.{TypeTable, operation_names}
use Rattle.cn_choice.specs.TeamNames.{team_name}
use Rattle.cn_reasons.specs.declared.group.Group.{Group}
use Rattle.cn_reasons.specs.declared.sight.Sight.{Sight}
use Rattle.cn_reasons.specs.declared.witness.View.{View}
use Rattle.cn_reasons.specs.declared.witness.Witness.{Witness}
use Rattle.cn_sentences.specs.Lines.{alone_line}
use Rattle.cn_markdown.specs.Rows.{name_rule}

-- what a process sees, as it stands in a cell
abbrev pub sight : TypeTable → Sight → List ℕ
sight t s = codes " " ++ (name_at t.responses s.response.0 ++ (codes "/"
    ++ (name_at t.states s.state.0 ++ [])))

abbrev pub sights : TypeTable → List Sight → List ℕ
sights t seen = flat_map (sight t) seen

-- how many processes a group has, its team, and its operation
unfoldable pub group_cells : TypeTable → Group → List ℕ
group_cells t g = codes "| " ++ (decimal g.count ++ (codes " | " ++ (team_name g.team ++ (codes " | "
    ++ (name_at (operation_names t) g.operation.0 ++ (codes " |" ++ []))))))

-- the row of a group, with what its processes can see where each team is first
unfoldable pub view_row : TypeTable → View → List ℕ
view_row t v = group_cells t v.group ++ (sights t v.a_first.items ++ (codes " |"
    ++ (sights t v.b_first.items ++ (codes " |\n" ++ []))))

-- for how many processes the witness is, its start state, and the head of its table
unfoldable pub witness_start : TypeTable → Witness → List ℕ
witness_start t w = decimal w.processes ++ (codes " processes: from state "
    ++ (name_at t.states w.choice.start.0
    ++ (codes ", each can tell which team was first, by its response and the state that it reads.\n\n"
    ++ (codes "| Processes | Team | Operation | Team A first: response/state | Team B first: response/state |\n"
    ++ []))))

unfoldable pub witness_table : TypeTable → Witness → List ℕ
witness_table t w =
    witness_start t w ++ (name_rule 5 ++ (flat_map (view_row t) w.views.items ++ []))

-- the witness, if there is one
abbrev pub witness_markdown : TypeTable → Option Witness → List ℕ
witness_markdown t None = alone_line
witness_markdown t (Some w) = witness_table t w
