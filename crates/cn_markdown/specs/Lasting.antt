-- Operations that last in Markdown, with the states that each leaves.
use Rattle.std.specs.Prelude.{codes, ℕ, List, [], ◌++◌}
use Rattle.cn_table.specs.Names.{name_at}
use Rattle.cn_table.specs.TypeTable.{TypeTable, operation_names}
use Rattle.cn_table.specs.declared.elements.State.{State}
use Rattle.cn_reasons.specs.declared.lasting.LastingWitness.{LastingWitness}
use Rattle.cn_sentences.specs.States.{states_told}
use Rattle.cn_markdown.specs.Rows.{name_rule}

-- the operation of a single process, and that of all others, with words for their teams
unfoldable pub single_start : List ℕ → List ℕ → List ℕ → List ℕ → List ℕ → List ℕ
single_start start single team many others =
    codes "Any number of processes: from state " ++ (start ++ (codes ", one" ++ (team
    ++ (codes " does " ++ (single ++ (codes ", and all others" ++ (others ++ (codes " do "
    ++ (many ++ (codes "." ++ []))))))))))

-- the operations, and the head of the table
unfoldable pub lasting_start : TypeTable → LastingWitness → List ℕ
lasting_start t l =
    let single = name_at (operation_names t) l.lasting.single.0 in
    let many = name_at (operation_names t) l.lasting.many.0 in
    single_start (name_at t.states l.lasting.start.0) single [] many []
    ++ (codes " No state is in both rows, so each can tell which came first.\n\n"
    ++ (codes "| First | The state is one of |\n" ++ []))

-- the row of the operation that came first, with words for it, and the states that are left then
unfoldable pub first_row : TypeTable → ℕ → List ℕ → List State → List ℕ
first_row t o words states = codes "| " ++ (name_at (operation_names t) o ++ (words
    ++ (codes " |" ++ (states_told t states ++ (codes " |\n" ++ [])))))

unfoldable pub lasting_table : TypeTable → LastingWitness → List ℕ
lasting_table t l = lasting_start t l ++ (name_rule 2
    ++ (first_row t l.lasting.single.0 [] l.single_states.items
    ++ (first_row t l.lasting.many.0 (codes ", or no step yet") l.many_states.items ++ [])))
