-- An explanation of a recoverable number in Markdown.
use Rattle.std.specs.Prelude.{codes, ℕ, ◌+◌, List, [], ◌++◌, Option, Some, None}
use Rattle.std.specs.Fmt.{decimal}
use Rattle.cn_table.specs.Names.{name_at}
use Rattle.cn_table.specs.TypeTable.{TypeTable}
use Rattle.cn_table.specs.declared.elements.State.{State}
use Rattle.cn_choice.specs.TeamNames.{team_name}
use Rattle.cn_search.specs.NumberText.{number_text}
use Rattle.cn_search.specs.declared.exact.ConsensusNumber.{ConsensusNumber}
use Rattle.cn_search.specs.declared.exact.ConsensusNumber.TheVariants.{Finite, Infinite}
use Rattle.cn_reasons.specs.declared.group.Group.{Group}
use Rattle.cn_reasons.specs.declared.reasons.RecoverableWay.{RecoverableWay}
use Rattle.cn_reasons.specs.declared.recording.Reader.{Reader}
use Rattle.cn_reasons.specs.declared.recording.RecordingWitness.{RecordingWitness}
use Rattle.cn_reasons.specs.declared.recoverable.RecoverableExplanation.{RecoverableExplanation}
use Rattle.cn_reasons.specs.declared.refutation.Refutation.{Refutation}
use Rattle.cn_sentences.specs.Groups.{members}
use Rattle.cn_sentences.specs.Lines.{alone_line, reader_line}
use Rattle.cn_sentences.specs.States.{states_told}
use Rattle.cn_markdown.specs.Explanation.{choices_line, no_list_line, start}
use Rattle.cn_markdown.specs.Numbers.{recoverable_head}
use Rattle.cn_markdown.specs.Rows.{name_rule}

-- ---- why it is so much

-- for how many processes the witness is, its start state, and the head of its table
unfoldable pub witness_start : TypeTable → RecordingWitness → List ℕ
witness_start t w = decimal w.processes ++ (codes " processes: from state "
    ++ (name_at t.states w.choice.start.0
    ++ (codes ", the state alone tells for good which team was first.\n\n"
    ++ (codes "| Team | Processes | Team first: the state is one of |\n" ++ []))))

-- the row of a team: its processes, and the states that orders leave which begin in it
unfoldable pub team_row : TypeTable → List ℕ → List Group → List State → List ℕ
team_row t team groups states = codes "| " ++ (team ++ (codes " | " ++ (members t [] groups
    ++ (codes " |" ++ (states_told t states ++ (codes " |\n" ++ []))))))

-- in which row the start state also stands, in which no process has moved yet
abbrev pub start_place : Option Reader → List ℕ
start_place None = codes ", which is in neither row.\n"
start_place (Some r) = codes ", which is also in the row of team " ++ (team_name r.other
    ++ (codes ": " ++ (reader_line r ++ [])))

unfoldable pub witness_table : TypeTable → RecordingWitness → List ℕ
witness_table t w = witness_start t w ++ (name_rule 3
    ++ (team_row t (codes "A") w.choice.a.items w.a_states.items
    ++ (team_row t (codes "B") w.choice.b.items w.b_states.items
    ++ (codes "\nNo step yet: the state is " ++ (name_at t.states w.choice.start.0
    ++ (start_place w.reader ++ []))))))

abbrev pub witness_markdown : TypeTable → Option RecordingWitness → List ℕ
witness_markdown t None = alone_line
witness_markdown t (Some w) = witness_table t w

-- ---- why it is no more

abbrev pub each_number_line : List ℕ
each_number_line = codes "It is so for each number of processes.\n"

-- with no refutation: that it is so for each number, or that the choices are not listed
abbrev pub not_refuted : ConsensusNumber → List ℕ
not_refuted Infinite = each_number_line
not_refuted (Finite n) = no_list_line (n + 1)

abbrev pub no_more : ConsensusNumber → Option (Refutation RecoverableWay) → List ℕ
no_more number None = not_refuted number
no_more number (Some r) = choices_line (codes "the state does not tell") r.processes r.count

-- ---- all of it

-- a table with the number, the table of the type, the witness, and why the number is no more
unfoldable pub recoverable_markdown : RecoverableExplanation → List ℕ
recoverable_markdown e =
    start recoverable_head e.table (number_text e.number)
    ++ (witness_markdown e.table e.witness ++ (codes "\n" ++ (no_more e.number e.refutation ++ [])))
