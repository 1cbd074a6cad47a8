-- Why the number of a type is what it is, in Markdown.
use Rattle.std.specs.Prelude.{codes, ℕ, ◌+◌, List, [], ◌++◌, nat_lt, Option, Some, None, false, if◌then◌else◌}
use Rattle.std.specs.Fmt.{decimal}
use Rattle.cn_table.specs.TypeTable.{TypeTable}
use Rattle.cn_interference.specs.Rules.{most_by}
use Rattle.cn_interference.specs.declared.rules.Rule.{Rule}
use Rattle.cn_interference.specs.declared.rules.Rule.TheVariants.{InterferenceWithoutAnswers, HiddenOperations, TwoStates, Interference}
use Rattle.cn_search.specs.declared.exact.ConsensusNumber.TheVariants.{Finite, Infinite}
use Rattle.cn_reasons.specs.declared.explanation.Explanation.{Explanation}
use Rattle.cn_reasons.specs.declared.lasting.LastingWitness.{LastingWitness}
use Rattle.cn_reasons.specs.declared.numbers.TypeNumber.{TypeNumber}
use Rattle.cn_reasons.specs.declared.numbers.TypeNumber.TheVariants.{Exact, UpTo}
use Rattle.cn_reasons.specs.declared.refutation.Refutation.{Refutation}
use Rattle.cn_reasons.specs.declared.way.Way.{Way}
use Rattle.cn_sentences.specs.Lines.{limit_line}
use Rattle.cn_sentences.specs.Numbers.{number_words}
use Rattle.cn_sentences.specs.Shortest.{shortest_line}
use Rattle.cn_sentences.specs.declared.shortest.ShortestCost.{ShortestCost}
use Rattle.cn_markdown.specs.Lasting.{lasting_table}
use Rattle.cn_markdown.specs.Numbers.{numbers_head, numbers_row}
use Rattle.cn_markdown.specs.TypeTable.{type_markdown}
use Rattle.cn_markdown.specs.Witness.{witness_markdown}

-- ---- the number

-- a table with the type and its number, and the table of the type
unfoldable pub start : List ℕ → TypeTable → List ℕ → List ℕ
start head t words = head ++ (numbers_row t.name words None None ++ (codes "\n"
    ++ (type_markdown t ++ (codes "\n" ++ []))))

-- ---- why it is no more

-- what a rule says of the operations
abbrev pub rule_start : Rule → List ℕ
rule_start InterferenceWithoutAnswers =
    codes "No operation answers, and in every state any two commute, or one wipes out the other"
rule_start HiddenOperations =
    codes "Of any two operations, in every state, one tells nothing of the other"
rule_start TwoStates =
    codes "With two states any two operations commute, or one wipes out the other"
rule_start Interference =
    codes "In every state any two operations commute, or one wipes out the other"

unfoldable pub rule_line : Rule → List ℕ
rule_line rule = rule_start rule ++ (codes ", so the number is at most " ++ (decimal (most_by rule)
    ++ (codes ".\n" ++ [])))

-- the number of choices, with what cannot tell in each of them
abbrev pub choices_words : List ℕ → ℕ → List ℕ
choices_words blind count =
    if nat_lt count 1 then codes "no choice of a start state, operations and teams is left.\n"
    else (if nat_lt count 2
    then codes "in the 1 choice of a start state, operations and teams, " ++ (blind ++ (codes ".\n" ++ []))
    else codes "in each of the " ++ (decimal count
    ++ (codes " choices of a start state, operations and teams, " ++ (blind ++ (codes ".\n" ++ [])))))

-- the choices for so many processes
unfoldable pub choices_line : List ℕ → ℕ → ℕ → List ℕ
choices_line blind n count =
    decimal n ++ (codes " processes: " ++ (choices_words blind count ++ []))

unfoldable pub no_list_line : ℕ → List ℕ
no_list_line n = decimal n ++ (codes " processes: the choices are not listed here.\n" ++ [])

-- with no refutation: that the choices are not listed, or that no more processes were looked for
abbrev pub not_refuted : TypeNumber → ℕ → List ℕ
not_refuted (Exact (Finite n)) limit = no_list_line (n + 1)
not_refuted (Exact Infinite) limit = []
not_refuted (UpTo most number) limit = limit_line limit

-- the refutation, where the number is the one that it bounds
abbrev pub refuted : TypeNumber → ℕ → Refutation Way → List ℕ
refuted (Exact (Finite n)) limit r = choices_line (codes "a process cannot tell") r.processes r.count
refuted (Exact Infinite) limit r = []
refuted (UpTo most number) limit r =
    choices_line (codes "a process cannot tell") r.processes r.count

abbrev pub no_more : TypeNumber → ℕ → Option (Refutation Way) → List ℕ
no_more number limit None = not_refuted number limit
no_more number limit (Some r) = refuted number limit r

-- the rule, or else the same
abbrev pub bound : Explanation → Option Rule → List ℕ
bound e None = no_more e.number e.limit e.refutation
bound e (Some rule) = rule_line rule

-- why the number is no more, or why there is no greatest one: the operations that last, if they are
-- told
abbrev pub reason : Explanation → Option LastingWitness → List ℕ
reason e None = bound e e.rule
reason e (Some l) = lasting_table e.table l

-- ---- how short protocols get

-- what the shortest plan costs, if it is told, behind an empty line
abbrev pub shortest_part : Option ShortestCost → List ℕ
shortest_part None = []
shortest_part (Some cost) = codes "\n" ++ (shortest_line cost ++ [])

-- ---- all of it

-- a table with the number, the table of the type, the witness, the reason why the number is no more,
-- and how short protocols get
unfoldable pub explanation_markdown : Explanation → Option ShortestCost → List ℕ
explanation_markdown e shortest =
    start (numbers_head false false) e.table (number_words [] e.number)
    ++ (witness_markdown e.table e.witness ++ (codes "\n" ++ (reason e e.lasting
    ++ (shortest_part shortest ++ []))))
