-- Two operations that last in words, by the states of each case.
use Rattle.std.specs.Prelude.{ℕ, List, [], ◌∷◌, codes}
use Rattle.std.specs.List.{concat}
use Rattle.cn_table.specs.Names.{name_at}
use Rattle.cn_table.specs.TypeTable.{TypeTable, operation_names}
use Rattle.cn_stock_cert.specs.LastingSets.{LastingSets}
use Rattle.cn_stock_text.specs.Names.{states_listed}

-- what one process does, and what the others do
abbrev pub lasting_line : TypeTable → ℕ → ℕ → ℕ → List ℕ
lasting_line t start single many =
    concat (codes "Why infinite: from state " ∷ name_at t.states start ∷ codes ", one process does "
    ∷ name_at (operation_names t) single ∷ codes ", and any number of others do "
    ∷ name_at (operation_names t) many ∷ codes ".\n" ∷ [])

-- the states in a case
abbrev pub states_line : TypeTable → List ℕ → List ℕ → List ℕ
states_line t case states =
    concat (case ∷ codes ": the state is one of" ∷ states_listed t states ∷ codes "\n" ∷ [])

-- the single operation comes first, is not done yet, or is done behind another one
abbrev pub first_case : List ℕ → List ℕ
first_case single = concat (codes "  " ∷ single ∷ codes " first" ∷ [])

abbrev pub alone_case : List ℕ → List ℕ
alone_case single = concat (codes "  " ∷ single ∷ codes " not yet" ∷ [])

abbrev pub behind_case : List ℕ → List ℕ → List ℕ
behind_case single many = concat (codes "  " ∷ single ∷ codes " behind " ∷ many ∷ [])

abbrev pub lasting_text : TypeTable → LastingSets → List ℕ
lasting_text t s =
    let single = name_at (operation_names t) s.single in
    let many = name_at (operation_names t) s.many in
    concat (lasting_line t s.start s.single s.many ∷ states_line t (first_case single) s.first
    ∷ states_line t (alone_case single) s.alone ∷ states_line t (behind_case single many) s.behind
    ∷ codes "  No state of the first list is in another one, so each process can tell which came first, however many there are.\n"
    ∷ [])
