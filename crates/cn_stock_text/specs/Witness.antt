-- A witness in words: what its processes do, and what each of them can see.
use Rattle.std.specs.Prelude.{ℕ, ◌+◌, List, [], ◌∷◌, ◌++◌, codes, decimal, flat_map, length, nat_le}
use Rattle.std.specs.Prelude.{if◌then◌else◌}
use Rattle.std.specs.List.{concat}
use Rattle.cn_table.specs.Names.{name_at}
use Rattle.cn_table.specs.TypeTable.{TypeTable}
use Rattle.cn_choice.specs.Canonical.{Choice}
use Rattle.cn_choice.specs.TeamNames.{team_name}
use Rattle.cn_choice.specs.declared.limits.TheConstants.{MOST_PROCESSES}
use Rattle.cn_choice.specs.declared.team.Team.{Team}
use Rattle.cn_choice.specs.declared.team.Team.TheVariants.{A, B}
use Rattle.cn_reasons.specs.Groups.{groups}
use Rattle.cn_reasons.specs.Sights.{sights}
use Rattle.cn_reasons.specs.declared.group.Group.{Group}
use Rattle.cn_reasons.specs.declared.sight.Sight.{Sight}
use Rattle.cn_sentences.specs.Groups.{members, processes}
use Rattle.cn_stock_text.specs.Names.{operations_listed}

-- the number of processes, and where they start
abbrev pub start_text : TypeTable → ℕ → ℕ → List ℕ
start_text t n start =
    concat (codes "Why " ∷ decimal n ∷ codes ": from state " ∷ name_at t.states start ∷ codes ", " ∷ [])

-- ---- what each process can see

-- what a process sees, behind a mark
abbrev pub sight_text : TypeTable → List ℕ → Sight → List ℕ
sight_text t mark s =
    concat (mark ∷ codes "got " ∷ name_at t.responses s.response.0 ∷ codes ", reads "
    ∷ name_at t.states s.state.0 ∷ [])

abbrev pub sights_text : TypeTable → List Sight → List ℕ
sights_text t [] = []
sights_text t (s ∷ ss) = sight_text t (codes " ") s ++ flat_map (sight_text t (codes "; ")) ss

-- what the processes of a group can see where the team is first
abbrev pub view_line : TypeTable → Choice → Group → Team → List ℕ
view_line t c g team =
    concat (codes "  " ∷ processes g.first g.count ∷ codes ", " ∷ team_name team ∷ codes " first:"
    ∷ sights_text t (sights t c team g.first) ∷ codes "\n" ∷ [])

abbrev pub view_lines : TypeTable → Choice → Group → List ℕ
view_lines t c g = view_line t c g A ++ view_line t c g B

-- that teams are told apart
abbrev pub apart_line : List ℕ
apart_line = codes "  No process sees the same where team A is first as where team B is, so each can tell which team was first.\n"

-- ---- the witness

-- the groups of each team
abbrev pub groups_text : TypeTable → List Group → List Group → List ℕ
groups_text t a b =
    concat (members t (codes " (team A)") a ∷ codes ", " ∷ members t (codes " (team B)") b
    ∷ codes ".\n" ∷ [])

-- the groups of each team, and what each group can see
abbrev pub seen_text : TypeTable → Choice → List Group → List Group → List ℕ
seen_text t c a b =
    concat (groups_text t a b ∷ flat_map (view_lines t c) a ∷ flat_map (view_lines t c) b
    ∷ apart_line ∷ [])

-- the operations of each team
abbrev pub teams_text : TypeTable → Choice → List ℕ
teams_text t c =
    concat (codes "team A does" ∷ operations_listed t c.a ∷ codes ", team B does"
    ∷ operations_listed t c.b ∷ codes ".\n" ∷ apart_line ∷ [])

-- what the processes do: by group, or by team where they are more than have names
abbrev pub does_text : TypeTable → Choice → List ℕ
does_text t c = if nat_le (length c.a + length c.b) MOST_PROCESSES
    then seen_text t c (groups A 0 c.a) (groups B (length c.a) c.b) else teams_text t c

abbrev pub witness_text : TypeTable → Choice → List ℕ
witness_text t c = start_text t (length c.a + length c.b) c.state ++ does_text t c
